-- Tests of a list, one place at a time, as loops walk it. Each law is over the test and the type of the elements, so that
-- every loop cites the same. Assumes nothing.
use mathlib.Core.Path.{◌≡◌, refl, sym, ap, ◌∙◌}
use mathlib.Core.Bool.{Bool, true, false, ◌&&◌, not}
use mathlib.Core.List.{List, [], ◌∷◌, ◌++◌, map}
use Prim.Native.Nat.compare
use Prim.Native.Nat.{ℕ, zero, suc, ◌+◌, ◌≤◌, ◌<◌}
use native.Mathlib.Omega.{arith}
use native.Mathlib.Numerals.{add-one}
use lib.Dec.{ltb}
use lib.ListN.{length, get_or, take, drop, drop_of_length-le, length-take}
use lib.Seq.{drop-cons}
use borrow.Author.Tests.{lt-ltb}
use Rattle.laws.specs.Choice.{bit}
use Rattle.laws.proofs.Tests.{both, and_intro, if_ind, by_cases, never}
use Rattle.lists.specs.Each.{any_of, all_of, counted, without, without_first, folded}

-- what is left from place i on, one step further
pub rest : {A : Type 0} (l : List A) (i : ℕ) (d : A) → i < length l → drop i l ≡ get_or l i d ∷ drop (i + 1) l
rest l i d h = rw add-one (drop-cons l i d h)

-- the first n are those that were counted
pub take_counted : {A : Type 0} (n : ℕ) (l : List A) → take (length (take n l)) l ≡ take n l
take_counted zero l = refl
take_counted (suc n) [] = refl
take_counted {A} (suc n) (x ∷ l) = ap (λ (k : List A). x ∷ k) (take_counted n l)

-- past the end of the first n none is left
pub first-end : {A : Type 0} (n : ℕ) (l : List A) → drop n (take n l) ≡ []
first-end n l = drop_of_length-le (take n l) {i = n} (omega (arith, length-take n l))

-- ---- a test of a list

module _ {A : Type 0} (p : A → Bool) where
  pub all_end : (n : ℕ) (l : List A) → all_of p (drop n (take n l)) ≡ true
  unfolding all_of
  all_end n l = rw (first-end n l) refl

  -- one passes exactly where the number of those that pass is above 0
  pub one-counted : (l : List A) → ltb 0 (counted p l) ≡ any_of p l
  unfolding any_of counted
  one-counted [] = refl
  one-counted (x ∷ l) =
      by_cases (p x)
      (λ h. rw h (lt-ltb 0 (1 + counted p l) (omega arith)))
      (λ h. let e : 0 + counted p l ≡ counted p l = omega arith in rw h (ap (ltb 0) e ∙ one-counted l))

  pub all_more : (l k : List A) → all_of p l ≡ true → all_of p k ≡ true → all_of p (l ++ k) ≡ true
  unfolding all_of
  all_more [] k h g = g
  all_more (x ∷ l) k h g = let b = both (p x) (all_of p l) h in and_intro b.0 (all_more l k b.1 g)

-- ---- the list without those that pass

module _ {A : Type 0} (p : A → Bool) where
  pub without_more : (l k : List A) → without p (l ++ k) ≡ without p l ++ without p k
  unfolding without
  without_more [] k = refl
  without_more (x ∷ l) k = by_cases (p x) (λ h. rw (h, without_more l k)) (λ h. rw (h, without_more l k))

  pub without-short : (l : List A) → length (without p l) ≤ length l
  unfolding without
  without-short [] = omega arith
  without-short (x ∷ l) =
      if_ind (λ (k : List A). length k ≤ suc (length l)) (p x) _ _
      (λ _. omega (arith, without-short l))
      (λ _. omega (arith, without-short l))

  -- one passes exactly where the list gets shorter without them
  pub one_less : (l : List A) → any_of p l ≡ ltb (length (without p l)) (length l)
  unfolding any_of without
  one_less [] = refl
  one_less (x ∷ l) =
      by_cases (p x)
      (λ h. rw h (sym (lt-ltb (length (without p l)) (suc (length l)) (omega (arith, without-short l)))))
      (λ h. rw (h, compare.suc-suc) (one_less l))

  -- where what a rule g leaves keeps a fitness f, the list keeps it
  pub without_keeps :
      (f : A → Bool) (g : A → A) → ((x : A) → f x ≡ true → p (g x) ≡ false → f (g x) ≡ true)
      → (l : List A) → all_of f l ≡ true → all_of f (without p (map g l)) ≡ true
  unfolding all_of without
  without_keeps f g one [] h = h
  without_keeps f g one (x ∷ l) h =
      let b = both (f x) (all_of f l) h in
      if_ind (λ (k : List A). all_of f k ≡ true) (p (g x)) _ _
      (λ _. without_keeps f g one l b.1)
      (λ t. and_intro (one x b.0 t) (without_keeps f g one l b.1))

-- where a rule g keeps a fitness f, all of the list keep it
pub map_keeps :
    {A : Type 0} (f : A → Bool) (g : A → A) → ((x : A) → f x ≡ true → f (g x) ≡ true)
    → (l : List A) → all_of f l ≡ true → all_of f (map g l) ≡ true
unfolding all_of
map_keeps f g one [] h = h
map_keeps f g one (x ∷ l) h = let b = both (f x) (all_of f l) h in and_intro (one x b.0) (map_keeps f g one l b.1)

-- ---- the list without the first that passes

module _ {A : Type 0} (p : A → Bool) where
  -- it is one shorter, if one passes
  pub first-less : (l : List A) → length (without_first p l) + bit (any_of p l) ≡ length l
  unfolding any_of without_first
  first-less [] = refl
  first-less (x ∷ l) = by_cases (p x) (λ h. rw h (omega arith)) (λ h. rw h (omega (arith, first-less l)))

  pub first_keeps : (f : A → Bool) (l : List A) → all_of f l ≡ true → all_of f (without_first p l) ≡ true
  unfolding all_of without_first
  first_keeps f [] h = h
  first_keeps f (x ∷ l) h =
      let b = both (f x) (all_of f l) h in
      if_ind (λ (k : List A). all_of f k ≡ true) (p x) _ _
      (λ _. b.1)
      (λ _. and_intro b.0 (first_keeps f l b.1))

  -- one element more behind the list: it is the first that passes, or it stays
  pub first-leaves : (l : List A) (x : A) → any_of p l ≡ false → p x ≡ true → without_first p (l ++ x ∷ []) ≡ without_first p l
  unfolding any_of without_first
  first-leaves [] x h t = rw t
  first-leaves (y ∷ l) x h t =
      by_cases (p y)
      (λ e. never (sym (rw e at h)))
      (λ e. rw (e, first-leaves l x (rw e at h) t))

  pub first-stays : (l : List A) (x : A) → not (any_of p l) && p x ≡ false → without_first p (l ++ x ∷ []) ≡ without_first p l ++ x ∷ []
  unfolding any_of without_first
  first-stays [] x h = rw h
  first-stays (y ∷ l) x h = by_cases (p y) (λ e. rw e) (λ e. rw (e, first-stays l x (rw e at h)))

-- ---- a list made one by a rule of two

module _ {A : Type 0} (f : A → A → A) where
  pub folded-next : (l : List A) (i : ℕ) (x d : A) → i < length l → folded f x (drop i l) ≡ folded f (f x (get_or l i d)) (drop (i + 1) l)
  unfolding folded
  folded-next l i x d h = rw (rest l i d h)

  pub folded-end : (l : List A) (i : ℕ) (x : A) → length l ≤ i → folded f x (drop i l) ≡ x
  unfolding folded
  folded-end l i x h = rw (drop_of_length-le l {i = i} h)

  -- where the rule keeps a fitness p, the one has it
  pub folded_keeps :
      (p : A → Bool) → ((x y : A) → p x ≡ true → p y ≡ true → p (f x y) ≡ true)
      → (l : List A) (x : A) → p x ≡ true → all_of p l ≡ true → p (folded f x l) ≡ true
  unfolding all_of folded
  folded_keeps p one [] x h g = h
  folded_keeps p one (y ∷ l) x h g =
      let b = both (p y) (all_of p l) g in folded_keeps p one l (f x y) (one x y h b.0) b.1
