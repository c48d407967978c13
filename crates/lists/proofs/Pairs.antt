-- A rule or a test of each element with its partner in a second list, one place at a time, as loops walk them. Each law is over
-- the rule or the test and the types of the elements. Assumes nothing.
use mathlib.Core.Path.{◌≡◌, refl, ap}
use mathlib.Core.Bool.{Bool, true, false, ◌||◌}
use mathlib.Core.List.{List, [], ◌∷◌, ◌++◌, append-nil}
use Prim.Native.Nat.{ℕ, zero, suc, ◌+◌, ◌≤◌, ◌<◌}
use native.Mathlib.Omega.{arith}
use lib.ListN.{length, get_or, set, take, drop, drop_of_length-le}
use lib.Seq.{take_all}
use Rattle.laws.proofs.Tests.{both, and_intro}
use Rattle.lists.specs.Each.{all_of, any_pair, each_pair}
use Rattle.lists.proofs.Each.{rest}

module _ {A B : Type 0} (f : A → B → A) where
  -- the rule, at the elements before place i
  abbrev pub pairs_to : List A → List B → ℕ → List A
  pairs_to xs ys i = each_pair f (take i xs) (take i ys) ++ drop i xs

  pub pairs-none : (xs : List A) (ys : List B) → xs ≡ pairs_to xs ys 0
  unfolding each_pair
  pairs-none xs ys = refl

  pub pairs_next :
      (xs : List A) (ys : List B) (i : ℕ) (d : A) (e : B) → i < length xs → i < length ys
      → set (pairs_to xs ys i) i (f (get_or (pairs_to xs ys i) i d) (get_or ys i e)) ≡ pairs_to xs ys (suc i)
  unfolding each_pair
  pairs_next [] ys i d e h k = absurd (omega arith)
  pairs_next (x ∷ xs) [] i d e h k = absurd (omega arith)
  pairs_next (x ∷ xs) (y ∷ ys) zero d e h k = refl
  pairs_next (x ∷ xs) (y ∷ ys) (suc i) d e h k =
      ap (λ (l : List A). f x y ∷ l) (pairs_next xs ys i d e (omega arith) (omega arith))

  pub pairs-done : (xs : List A) (ys : List B) (i : ℕ) → length xs ≤ i → length ys ≤ i → pairs_to xs ys i ≡ each_pair f xs ys
  pairs-done xs ys i h k = rw (take_all i xs h, take_all i ys k, drop_of_length-le xs h, append-nil)

  -- element i is the rule's answer to element i and its partner, and to no other
  pub pair-at :
      (xs : List A) (ys : List B) (i : ℕ) (d : A) (e : B) → i < length xs → i < length ys
      → get_or (each_pair f xs ys) i d ≡ f (get_or xs i d) (get_or ys i e)
  unfolding each_pair
  pair-at [] ys i d e h k = absurd (omega arith)
  pair-at (x ∷ xs) [] i d e h k = absurd (omega arith)
  pair-at (x ∷ xs) (y ∷ ys) zero d e h k = refl
  pair-at (x ∷ xs) (y ∷ ys) (suc i) d e h k = pair-at xs ys i d e (omega arith) (omega arith)

  pub pairs_length : (xs : List A) (ys : List B) → length (each_pair f xs ys) ≡ length xs
  unfolding each_pair
  pairs_length [] ys = refl
  pairs_length (x ∷ xs) [] = refl
  pairs_length (x ∷ xs) (y ∷ ys) = ap suc (pairs_length xs ys)

  -- a rule that leaves each as it is leaves the list
  pub pairs-same : ((x : A) (y : B) → f x y ≡ x) → (xs : List A) (ys : List B) → each_pair f xs ys ≡ xs
  unfolding each_pair
  pairs-same same [] ys = refl
  pairs-same same (x ∷ xs) [] = refl
  pairs-same same (x ∷ xs) (y ∷ ys) = rw (same x y, pairs-same same xs ys) refl

  -- a rule that keeps a fitness keeps it at each
  pub pairs_keep :
      (fit : A → Bool) (sound : B → Bool) → ((x : A) (y : B) → fit x ≡ true → sound y ≡ true → fit (f x y) ≡ true)
      → (xs : List A) (ys : List B) → all_of fit xs ≡ true → all_of sound ys ≡ true → all_of fit (each_pair f xs ys) ≡ true
  unfolding each_pair all_of
  pairs_keep fit sound one [] ys h k = h
  pairs_keep fit sound one (x ∷ xs) [] h k = h
  pairs_keep fit sound one (x ∷ xs) (y ∷ ys) h k =
      let a = both (fit x) (all_of fit xs) h in
      let b = both (sound y) (all_of sound ys) k in
      and_intro (one x y a.0 b.0) (pairs_keep fit sound one xs ys a.1 b.1)

-- ---- a test: the pairs left decide. t is what the test of pair i answered

module _ {A B : Type 0} (p : A → B → Bool) where
  pub any_pair-next :
      (xs : List A) (ys : List B) (i : ℕ) (d : A) (e : B) {t : Bool} → i < length xs → i < length ys
      → p (get_or xs i d) (get_or ys i e) ≡ t
      → any_pair p (drop i xs) (drop i ys) ≡ (t || any_pair p (drop (i + 1) xs) (drop (i + 1) ys))
  unfolding any_pair
  any_pair-next xs ys i d e h k r = rw (rest xs i d h, rest ys i e k, r)

  pub any_pair-end : (xs : List A) (ys : List B) (i : ℕ) → length xs ≤ i → any_pair p (drop i xs) ys ≡ false
  unfolding any_pair
  any_pair-end xs ys i h = rw (drop_of_length-le xs h)
