-- A test of each of a list, in a loop with no early end: what was found so far, or those left. Assumes nothing.
use mathlib.Core.Path.{◌≡◌, sym}
use mathlib.Core.Bool.{Bool, ◌||◌, or_assoc, or-false}
use mathlib.Core.List.{List}
use Prim.Native.Nat.{ℕ, ◌+◌, ◌≤◌, ◌<◌}
use lib.ListN.{length, get_or, drop, drop_of_length-le}
use Rattle.lists.specs.Each.{any_of}
use Rattle.lists.proofs.Each.{rest}

module _ {A : Type 0} (p : A → Bool) where
  -- b says whether one was found before place i, t what the test says there
  pub one_tested :
      (b t : Bool) (l : List A) (i : ℕ) (d : A) → i < length l → t ≡ p (get_or l i d)
      → (b || any_of p (drop i l)) ≡ ((b || t) || any_of p (drop (i + 1) l))
  unfolding any_of
  one_tested b t l i d h e = rw (rest l i d h, ← e) (sym (or_assoc b t _))

  pub all_tested : (b : Bool) (l : List A) (i : ℕ) → length l ≤ i → b ≡ (b || any_of p (drop i l))
  unfolding any_of
  all_tested b l i h = rw (drop_of_length-le l {i = i} h) (sym (or-false b))
