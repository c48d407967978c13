-- The loop over the samples: a sum so far. Assumes nothing.
use mathlib.Core.Path.{◌≡◌, refl}
use mathlib.Core.Bool.{true}
use mathlib.Core.List.{List}
use Prim.Native.Nat.{ℕ, ◌+◌, ◌*◌, ◌≤◌, ◌<◌}
use lib.IntN.{ℤ, pos, nat_abs, ◌+ℤ◌}
use lib.ListN.{length, get_or, drop, drop_of_length-le}
use Rattle.std.proofs.lemmas.List.Recursion.{and_at}
use Rattle.lists.specs.Each.{all_of}
use Rattle.lists.specs.Sums.{sum_of}
use Rattle.lists.proofs.Each.{rest}
use Rattle.weight.specs.Weight.{largest_weight, is_weight}
use Rattle.possible.specs.Answer.{all_weights}
use Rattle.possible.specs.Bounds.{clipped, sum_at}
use Rattle.possible.proofs.Samples.{clipped-size}
use Rattle.possible.proofs.Signed.{signed}

-- what is left of the samples makes the sum the whole sum
pub record Adding (d : ℤ) (xs : List ℤ) (sum : ℤ) (i : ℕ) : Type 0 where
  pub inside : i ≤ length xs
  pub so_far : sum +ℤ sum_at d (drop i xs) ≡ sum_at d xs
  pub size : nat_abs sum ≤ largest_weight * i

pub weight-at : (xs : List ℤ) (i : ℕ) → all_weights xs ≡ true → i < length xs → is_weight (get_or xs i (pos 0)) ≡ true
unfolding all_of
weight-at xs i h l = and_at all_weights is_weight refl (λ _ _. refl) xs i (pos 0) l h

module _ (d : ℤ) (xs : List ℤ) (i : ℕ) where
  pub none_left : length xs ≤ i → sum_at d (drop i xs) ≡ pos 0
  unfolding sum_of
  none_left h = rw (drop_of_length-le xs h)

  pub next_left : i < length xs → sum_at d (drop i xs) ≡ sum_at d (drop (i + 1) xs) +ℤ clipped d (get_or xs i (pos 0))
  unfolding sum_of
  next_left h = rw (rest xs i (pos 0) h)

pub ruleset adding = (signed, weight-at, none_left, next_left, clipped-size)
