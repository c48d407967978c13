-- `part_fit` equals its definition `numbers_fit`. Assumes nothing.
use mathlib.Core.Bool.{Bool, true, false, ◌&&◌}
use mathlib.Core.List.{List, map}
use mathlib.Core.Path.{◌≡◌, refl, sym, ◌∙◌}
use native.Mathlib.Omega.{arith}
use lib.IntN.{ℤ, nat_abs}
use lib.ListN.{length, drop, length-drop, length-map}
use borrow.Author.Tests.{eq-eqb}
use Rattle.laws.proofs.Tests.{both, never}
use Rattle.tally.specs.Tally.{tally_fit}
use Rattle.tally.specs.declared.tally.Tally.{Tally}
use Rattle.tally.proofs.Facts.{fit_tells}
use Rattle.part.specs.Part.{part_fit}
use Rattle.tallies.specs.Memory.{tally_of, unsigned, part_of, numbers_fit}
use Rattle.tallies.proofs.Lists.{tail-is}
use Rattle.tallies.proofs.part_fit.Goals as goal

-- what was told of the tally of these numbers
told : (p : List ℤ) (t : Tally) (u f : Bool) → t ≡ tally_of p → u ≡ unsigned p → f ≡ tally_fit t → (u && f) ≡ (unsigned p && tally_fit (tally_of p))
told p t u f e g h = rw (g, h, e)

pub add_to-requires : goal.add_to-requires
add_to-requires c =
    let h = both c.is_unsigned.result c.fit.result c.if-is_unsigned-fit.true in
    let fit-was : tally_fit c.tally_of-t.result ≡ true = sym c.fit.ensures ∙ h.1 in
    (rw (tail-is 13 c.args.p.now, length-drop 13 c.args.p.now) (omega (arith, c.requires)), (fit_tells _ fit-was).bounds.n)

pub returns-then-is_unsigned-fit : goal.returns-then-is_unsigned-fit
unfolding numbers_fit part_fit part_of
returns-then-is_unsigned-fit c =
    let p = c.args.p.now in
    let h = both (unsigned p) (tally_fit (tally_of p)) (sym (told p c.tally_of-t.result _ _ c.tally_of-t.ensures c.is_unsigned.ensures c.fit.ensures) ∙ c.if-is_unsigned-fit.true) in
    let n : length (map nat_abs (drop 13 p)) ≡ 21 = length-map (drop 13 p) nat_abs ∙ length-drop 13 p ∙ omega (arith, c.requires) in
    rw (c.add_to.ensures, tail-is 13 p, c.tally_of-t.ensures, h.0, h.1, eq-eqb _ _ n)

-- the sign of a number or the tally fails
fails : (u t a l s : Bool) → u && t ≡ false → false ≡ (u && a && (t && l && s))
fails true true a l s h = never (sym h)
fails true false true l s h = refl
fails true false false l s h = refl
fails false t a l s h = refl

pub returns-else-is_unsigned-fit : goal.returns-else-is_unsigned-fit
unfolding numbers_fit part_fit part_of
returns-else-is_unsigned-fit c =
    let p = c.args.p.now in
    let h = sym (told p c.tally_of-t.result _ _ c.tally_of-t.ensures c.is_unsigned.ensures c.fit.ensures) ∙ c.if-is_unsigned-fit.false in
    c.if-is_unsigned-fit.false ∙ fails (unsigned p) (tally_fit (tally_of p)) _ _ _ h
