-- What noting a verdict comes to, as the code tests it; and class counts whose sum is cut. Assumes nothing.
use mathlib.Core.Path.{◌≡◌, refl}
use mathlib.Core.Bool.{true, false, ◌&&◌}
use mathlib.Core.List.{List}
use Prim.Native.Nat.{ℕ, ◌+◌, ◌≤◌, ◌<◌, min}
use native.Mathlib.Omega.{arith}
use mir.Facts.{to_z-of_z}
use mir.Val.{SFits, to_z, of_z}
use mir.Syntax.{w64}
use lib.Dec.{eqb}
use lib.IntN.{ℤ, nat_abs}
use lib.ListN.{length, get_or, drop, drop_of_length-le}
use borrow.Author.Tests.{eqb-true, eqb-false, eq-eqb, ne_eqb, leb-true}
use Rattle.std.specs.Prelude.{Some, None}
use Rattle.laws.proofs.Tests.{both, by_cases}
use Rattle.lists.specs.Counts.{add_up, one_more}
use Rattle.lists.proofs.Each.{rest}
use Rattle.weight.specs.Weight.{is_weight}
use Rattle.verdict.specs.Verdict.{is_grade}
use Rattle.tally.specs.Tally.{tally_fit, takes, added, noted_of}
use Rattle.tally.specs.declared.tally.Tally.{Tally}
use Rattle.tally.proofs.Facts.{fit_tells, takes_tells}
use Rattle.part.specs.Class.{class_of}
use Rattle.part.specs.Part.{part_fit, added_part, takes_in, noted_part}
use Rattle.part.specs.Steps.{most}
use Rattle.part.specs.declared.part.Part.{Part}
use Rattle.part.proofs.Chosen.{none_given, some_given}

-- ---- the sum of the counts, cut

-- one count more is added
pub cut_next : (l : List ℕ) (i s : ℕ) → i < length l → min (min (s + get_or l i 0) most + add_up (drop (i + 1) l)) most ≡ min (s + add_up (drop i l)) most
unfolding add_up
cut_next l i s h = rw (rest l i 0 h) (omega arith)

pub cut_end : (l : List ℕ) (i s : ℕ) → length l ≤ i → s ≤ most → s ≡ min (s + add_up (drop i l)) most
unfolding add_up
cut_end l i s h m = rw (drop_of_length-le l h) (omega arith)

-- no fit tally counts as many as a sum that is cut
pub cut_fit : (p : Part) (s : ℕ) → length p.classes ≡ 21 → s ≡ min (add_up p.classes) most → (tally_fit p.tally && eqb s p.tally.n) ≡ part_fit p
unfolding part_fit
cut_fit p s e h =
    by_cases (tally_fit p.tally)
    (λ y. let small : p.tally.n ≤ 999999 = (fit_tells p.tally y).bounds.n in
    rw (y, eq-eqb (length p.classes) 21 e) (same small))
    (λ n. rw n refl)
  where
    same : p.tally.n ≤ 999999 → eqb s p.tally.n ≡ eqb (add_up p.classes) p.tally.n
    same m =
        by_cases (eqb s p.tally.n)
        (λ y. rw (y, eq-eqb (add_up p.classes) p.tally.n (omega (arith, eqb-true s p.tally.n y))) refl)
        (λ n. rw (n, ne_eqb (add_up p.classes) p.tally.n (λ z. eqb-false s p.tally.n n (omega arith))) refl)

-- ---- a verdict

-- a number that fits 64 bits, given to a call, is the same there
pub as_given : (x : ℤ) → SFits w64 x → to_z w64 (of_z w64 x) ≡ x
as_given x h = to_z-of_z h

module _ (p : Part) (v : ℕ) (net target : ℤ) where
  -- a part that is unfit, or a target that is no weight, takes nothing
  pub unsound : (part_fit p && is_weight target) ≡ false → noted_part p v net target ≡ None
  unfolding noted_part takes_in
  unsound h = rw h refl

  -- else it is taken as the tally takes it
  module _ (sound : (part_fit p && is_weight target) ≡ true) where
    as-taken : takes_in p v net target ≡ takes p.tally v net
    unfolding takes_in
    as-taken = rw sound refl

    pub untaken : noted_of p.tally v net ≡ None → noted_part p v net target ≡ None
    unfolding noted_of noted_part
    untaken h = rw (as-taken, none_given (takes p.tally v net) (added p.tally v net) h) refl

    module _ (next : Tally) (h : noted_of p.tally v net ≡ Some next) where
      taken : (takes p.tally v net ≡ true) × (next ≡ added p.tally v net)
      unfolding noted_of
      taken = some_given (takes p.tally v net) (added p.tally v net) next h

      pub net_weight : nat_abs net ≤ 999999
      net_weight = leb-true (nat_abs net) 999999 (takes_tells p.tally v net taken.0).weight

      pub target_weight : nat_abs target ≤ 999999
      target_weight = leb-true (nat_abs target) 999999 (both (part_fit p) (is_weight target) sound).1

      pub noted_grade : is_grade v ≡ true → noted_part p v net target ≡ Some (record { tally = next; classes = one_more p.classes (class_of net target) })
      unfolding noted_part added_part
      noted_grade g = rw (as-taken, taken.0, taken.1, g) refl

      pub noted_other : is_grade v ≡ false → noted_part p v net target ≡ Some (record { tally = next; classes = p.classes })
      unfolding noted_part added_part
      noted_other g = rw (as-taken, taken.0, taken.1, g) refl
