-- A fit tally with room stays fit with one more verdict. Assumes nothing.
use mathlib.Core.Path.{◌≡◌, refl}
use mathlib.Core.Bool.{Bool, true, false, ◌&&◌}
use Prim.Native.Nat.{ℕ, ◌+◌, ◌*◌, ◌≤◌, ◌<◌}
use native.Mathlib.Omega.{arith}
use lib.Dec.{leb, eqb}
use lib.IntN.{ℤ, nat_abs, ◌+ℤ◌}
use lib.Signed.{lt_z}
use borrow.Author.Tests.{leb-true, le-leb, ltb-true, eq-eqb, ne_eqb}
use Rattle.laws.specs.Choice.{when◌then◌else◌}
use Rattle.weight.specs.Weight.{is_weight}
use Rattle.laws.proofs.Tests.{both, and_intro, if_ind}
use Rattle.laws.proofs.Signed.{abs_add}
use Rattle.verdict.specs.Verdict.{is_verdict, is_grade}
use Rattle.tally.specs.Tally.{graded, total, tally_fit, has_room, largest_with, smallest_with, counted_with, with_counts, weighed_with, added}
use Rattle.tally.specs.Steps.{none_is_zero}
use Rattle.tally.specs.declared.tally.Tally.{Tally}
use Rattle.tally.proofs.Facts.{FitTally, fit_tells, square_le}
use Rattle.tally.proofs.Ones.{ones, grade_ones}

module _ (t : Tally) (v : ℕ) (net : ℤ) (f : tally_fit t ≡ true) (verdict : is_verdict v ≡ true) (w : is_weight net ≡ true) (room : has_room t ≡ true) where
  below : total t < 999999
  unfolding has_room
  below = ltb-true (total t) 999999 room

  abbrev counted : Tally
  counted = with_counts t (counted_with t.counts v)

  facts : FitTally t
  facts = fit_tells t f

  counted-total : total counted ≤ 999999
  unfolding counted_with
  counted-total = omega (arith, below, ones v verdict)

  counted-graded : (k : ℕ) → (when is_grade v then 1 else 0) ≡ k → t.n + k ≡ graded counted
  unfolding counted_with
  counted-graded k e = omega (arith, facts.grades, grade_ones v, e)

  largest_weight_lem : is_weight (largest_with counted net) ≡ true
  unfolding largest_with counted_with
  largest_weight_lem =
      if_ind (λ (z : ℤ). is_weight z ≡ true) (eqb t.n 0) _ _ (λ _. w)
      (λ _. if_ind (λ (z : ℤ). is_weight z ≡ true) (lt_z t.largest net) _ _ (λ _. w) (λ _. le-leb _ _ facts.largest))

  smallest-weight : is_weight (smallest_with counted net) ≡ true
  unfolding smallest_with counted_with
  smallest-weight =
      if_ind (λ (z : ℤ). is_weight z ≡ true) (eqb t.n 0) _ _ (λ _. w)
      (λ _. if_ind (λ (z : ℤ). is_weight z ≡ true) (lt_z net t.smallest) _ _ (λ _. w) (λ _. le-leb _ _ facts.smallest))

  sum-within : nat_abs (t.sum +ℤ net) ≤ (t.n + 1) * 999999
  sum-within = omega (arith, abs_add t.sum net, leb-true (nat_abs net) 999999 w, facts.bounds.sum)

  squares-within : t.squares + nat_abs net * nat_abs net ≤ (t.n + 1) * 1000000000000
  squares-within = omega (arith, square_le (nat_abs net) (leb-true (nat_abs net) 999999 w), facts.bounds.squares)

  graded-fit : is_grade v ≡ true → tally_fit (weighed_with counted net) ≡ true
  unfolding tally_fit weighed_with counted_with
  graded-fit g =
      and_intro (and_intro (and_intro (and_intro (and_intro (and_intro
      (le-leb _ _ counted-total)
      (eq-eqb _ _ (counted-graded 1 (rw g refl))))
      (le-leb _ _ sum-within))
      (le-leb _ _ squares-within))
      largest_weight_lem)
      smallest-weight)
      (rw (ne_eqb (t.n + 1) 0 (λ z. omega arith)))

  -- the tests before the last
  abbrev sizes : Bool
  sizes =
      leb (total t) 999999 && eqb t.n (graded t) && leb (nat_abs t.sum) (t.n * 999999) && leb t.squares (t.n * 1000000000000)
      && is_weight t.largest && is_weight t.smallest

  other-fit : is_grade v ≡ false → tally_fit counted ≡ true
  unfolding tally_fit
  other-fit g =
      and_intro (and_intro (and_intro (and_intro (and_intro (and_intro
      (le-leb _ _ counted-total)
      (eq-eqb t.n (graded counted) (omega (arith, counted-graded 0 (rw g refl)))))
      (le-leb _ _ facts.bounds.sum))
      (le-leb _ _ facts.bounds.squares))
      (le-leb _ _ facts.largest))
      (le-leb _ _ facts.smallest))
      (both sizes (none_is_zero t) f).1

  pub added-fit : tally_fit (added t v net) ≡ true
  unfolding added
  added-fit = if_ind (λ (x : Tally). tally_fit x ≡ true) (is_grade v) _ _ graded-fit other-fit
