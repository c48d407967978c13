-- The sums of samples within their margins: every number from the least sum to the largest. Assumes nothing.
use mathlib.Core.Path.{◌≡◌, refl, ap}
use mathlib.Core.Bool.{true}
use mathlib.Core.List.{List, [], ◌∷◌}
use Prim.Native.Nat.{ℕ, suc, ◌*◌, ◌≤◌}
use native.Mathlib.Omega.{arith}
use lib.IntN.{ℤ, pos, neg_ℤ, nat_abs, ◌-ℤ◌}
use lib.ListN.{length}
use lib.Signed.{le_z, ◌≤ℤ◌}
use borrow.Author.Tests.{leb-true}
use borrow.Author.Differences.{ints}
use Rattle.laws.proofs.Tests.{both, by_cases}
use Rattle.lists.specs.Each.{all_of}
use Rattle.lists.specs.Sums.{sum_of}
use Rattle.weight.specs.Weight.{largest_weight, is_weight}
use Rattle.possible.specs.Answer.{all_weights, Near, none, more}
use Rattle.possible.specs.Bounds.{sum_at}
use Rattle.possible.proofs.Samples.{clipped-size, highest, close_in, low-high, is_close}

pub near_length : {e : ℕ} {xs ys : List ℤ} → Near e xs ys → length ys ≡ length xs
near_length none = refl
near_length (more c n) = ap suc (near_length n)

-- how large they are
pub sum-size : (d : ℤ) (xs : List ℤ) → nat_abs (sum_at d xs) ≤ largest_weight * length xs
unfolding sum_of
sum-size d [] = omega arith
sum-size d (x ∷ xs) = omega (arith, ints, sum-size d xs, clipped-size d x)

module _ (e : ℕ) where
  -- the least and the largest sum
  abbrev pub low_sum : List ℤ → ℤ
  low_sum xs = sum_at (neg_ℤ (pos e)) xs

  abbrev pub high_sum : List ℤ → ℤ
  high_sum xs = sum_at (pos e) xs

  pub sums_rise : (xs : List ℤ) → all_weights xs ≡ true → low_sum xs ≤ℤ high_sum xs
  unfolding sum_of all_of
  sums_rise [] h = omega (arith, ints)
  sums_rise (x ∷ xs) h =
      let b = both (is_weight x) (all_weights xs) h in
      omega (arith, ints, sums_rise xs b.1, low-high e x (leb-true _ _ b.0))

  pub sum_in : {xs ys : List ℤ} → Near e xs ys → (low_sum xs ≤ℤ sum_of ys) × (sum_of ys ≤ℤ high_sum xs)
  unfolding sum_of
  sum_in none = omega (arith, ints)
  sum_in (more {x = x} {y = y} c n) = omega (arith, ints, sum_in n, close_in e x y c)

  -- the first sample takes what it can of a sum
  pub is_sum : (xs : List ℤ) → all_weights xs ≡ true → (z : ℤ) → low_sum xs ≤ℤ z → z ≤ℤ high_sum xs → (ys : List ℤ) × Near e xs ys × (sum_of ys ≡ z)
  unfolding sum_of all_of
  is_sum [] h z l g = ([], none, omega (arith, ints))
  is_sum (x ∷ xs) h z l g =
      let b = both (is_weight x) (all_weights xs) h in
      let w = leb-true (nat_abs x) largest_weight b.0 in
      let p = low-high e x w in
      let o = sums_rise xs b.1 in
      by_cases (le_z (z -ℤ low_sum xs) (highest e x))
      (λ t.
      let r = is_sum xs b.1 (low_sum xs) (omega (arith, ints)) o in
      ((z -ℤ low_sum xs) ∷ r.0, more (is_close e x w _ (omega (arith, ints)) (omega (arith, ints))) r.1, omega (arith, ints, r.2)))
      (λ t.
      let r = is_sum xs b.1 (z -ℤ highest e x) (omega (arith, ints)) (omega (arith, ints)) in
      (highest e x ∷ r.0, more (is_close e x w _ (omega (arith, ints)) (omega (arith, ints))) r.1, omega (arith, ints, r.2)))
