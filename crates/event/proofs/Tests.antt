-- A test of each of a list, in a loop with no early end: what the tests said so far, and those left. Assumes nothing.
use mathlib.Core.Path.{◌≡◌, sym}
use mathlib.Core.Bool.{Bool, ◌&&◌, and_assoc, and-true}
use mathlib.Core.List.{List}
use Prim.Native.Nat.{ℕ, ◌+◌, ◌≤◌, ◌<◌}
use lib.ListN.{length, get_or, drop, drop_of_length-le}
use Rattle.lists.specs.Each.{all_of}
use Rattle.lists.proofs.Each.{rest}

module _ {A : Type 0} (p : A → Bool) where
  -- b is what they said before place i, t what the test says there
  pub one_tested :
      (b t : Bool) (l : List A) (i : ℕ) (d : A) → i < length l → t ≡ p (get_or l i d)
      → (b && all_of p (drop i l)) ≡ ((b && t) && all_of p (drop (i + 1) l))
  unfolding all_of
  one_tested b t l i d h e = rw (rest l i d h, ← e) (sym (and_assoc b t _))

  pub all_tested : (b : Bool) (l : List A) (i : ℕ) → length l ≤ i → b ≡ (b && all_of p (drop i l))
  unfolding all_of
  all_tested b l i h = rw (drop_of_length-le l {i = i} h) (sym (and-true b))
