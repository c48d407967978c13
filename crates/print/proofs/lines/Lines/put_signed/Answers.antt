-- `put_signed`: a minus where the number is below 0, and its size. Assumes nothing.
use Prim.Native.Nat.{ℕ, ◌≤◌, ◌<◌, ◌^◌}
use mathlib.Core.Bool.{true, false}
use mathlib.Core.Path.{◌≡◌, refl, sym, ap, ◌∙◌}
use mathlib.Core.List.{◌∷◌}
use native.Mathlib.Omega.{arith}
use lib.ListN.{length}
use lib.IntN.{ℤ, pos, negsuc, nat_abs}
use lib.Signed.{lt_z, mag}
use borrow.Author.Tests.{ltb-true}
use mir.Syntax.{w64}
use mir.Val.{to_z, of_z}
use Rattle.laws.proofs.Signed.{back}
use Rattle.laws.proofs.Tests.{never}
use Rattle.decimal.specs.Number.{decimal, number_text}
use Rattle.decimal.proofs.Digits.{size_at-most_19}
use Rattle.print.proofs.Writes.{writes_then, writes_in, writes_as}
use Rattle.print.proofs.lines.Lines.put_signed.Goals.{then-v-lt0, else-v-lt0}
use Rattle.print.proofs.lines.Lines.put_signed.Goals as goal

size_is : {n : ℕ} (v : ℤ) → mag v < 2 ^ 63 → n ≡ nat_abs (to_z w64 (of_z w64 v)) → n ≡ nat_abs v
size_is v h e = rw (back v h) at e

digits-fit : {n : ℕ} (v : ℤ) → mag v < 2 ^ 63 → n ≡ nat_abs v → length (decimal n) ≤ 19
digits-fit v h e = rw e (size_at-most_19 v h)

below : (v : ℤ) → lt_z v (pos 0) ≡ true → number_text v ≡ 45 ∷ decimal (nat_abs v)
below (pos n) h = absurd (omega (arith, ltb-true n 0 h))
below (negsuc n) h = refl

above : (v : ℤ) → lt_z v (pos 0) ≡ false → number_text v ≡ decimal (nat_abs v)
above (pos n) h = refl
above (negsuc n) h = never (sym h)

pub put_decimal-requires : goal.put_decimal-requires
put_decimal-requires c =
    let v = c.args.v in
    let short = digits-fit v c.ranges.v.sfits (size_is v c.ranges.v.sfits c.unsigned_abs.ensures.value) in
    elim c.if-v-lt0.branch [
      | then-v-lt0 w ↦ rw w.self-is (omega (arith, short, w.put.ensures.wrote.place, w.put.ensures.size, c.requires))
      | else-v-lt0 w ↦ rw w.self-is (omega (arith, short, c.requires))
    ]

pub returns : goal.returns
returns c =
    let v = c.args.v in
    let size = size_is v c.ranges.v.sfits c.unsigned_abs.ensures.value in
    let short = digits-fit v c.ranges.v.sfits size in
    elim c.if-v-lt0.branch [
      | then-v-lt0 w ↦ writes_as (ap (λ (n : ℕ). 45 ∷ decimal n) size ∙ sym (below v (rw (back v c.ranges.v.sfits) at w.if-v-lt0.true))) (writes_then w.put.ensures (writes_in short (rw w.self-is at c.put_decimal.ensures)))
      | else-v-lt0 w ↦ writes_as (ap decimal size ∙ sym (above v (rw (back v c.ranges.v.sfits) at w.if-v-lt0.false))) (writes_in (omega (arith, short)) (rw w.self-is at c.put_decimal.ensures))
    ]
