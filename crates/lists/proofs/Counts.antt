-- Lists of counts: one element more, a count is at most the sum, and a list written out. Assumes nothing.
use mathlib.Core.Path.{◌≡◌, refl, ap, ◌∙◌}
use mathlib.Core.List.{List, [], ◌∷◌}
use Prim.Native.Nat.{ℕ, zero, suc, ◌+◌, ◌≤◌, ◌<◌}
use native.Mathlib.Omega.{arith}
use lib.Dec.{eqb}
use lib.ListN.{length, get_or}
use borrow.Author.Tests.{eq-eqb, ne_eqb, eqb-true, eqb-false}
use Rattle.laws.specs.Choice.{bit}
use Rattle.laws.proofs.Tests.{by_cases}
use Rattle.lists.specs.Counts.{add_up, one_more, tab}

-- ---- sums

pub one_of_sum : (l : List ℕ) (k : ℕ) → get_or l k 0 ≤ add_up l
unfolding add_up
one_of_sum [] k = omega arith
one_of_sum (x ∷ xs) zero = omega arith
one_of_sum (x ∷ xs) (suc k) = omega (arith, one_of_sum xs k)

pub sum-one_more : (l : List ℕ) (k : ℕ) → k < length l → add_up (one_more l k) ≡ add_up l + 1
unfolding add_up
sum-one_more [] k h = absurd (omega arith)
sum-one_more (x ∷ xs) zero h = omega arith
sum-one_more (x ∷ xs) (suc k) h = omega (arith, sum-one_more xs k (omega arith))

-- ---- a list written out

pub tab-same : {A : Type 0} (n : ℕ) (f g : ℕ → A) → ((i : ℕ) → i < n → f i ≡ g i) → tab n f ≡ tab n g
tab-same zero f g h = refl
tab-same {A} (suc n) f g h =
    ap (λ (x : A). x ∷ tab n (λ (i : ℕ). f (suc i))) (h 0 (omega arith))
    ∙ ap (λ (l : List A). g 0 ∷ l) (tab-same n (λ (i : ℕ). f (suc i)) (λ (i : ℕ). g (suc i)) (λ i m. h (suc i) (omega arith)))

-- a list of n is its elements
pub tab-is : {A : Type 0} (n : ℕ) (l : List A) (d : A) → length l ≡ n → tab n (λ (i : ℕ). get_or l i d) ≡ l
tab-is zero [] d p = refl
tab-is zero (a ∷ l) d p = absurd (omega arith)
tab-is (suc n) [] d p = absurd (omega arith)
tab-is {A} (suc n) (a ∷ l) d p = ap (λ (t : List A). a ∷ t) (tab-is n l d (omega arith))

pub tab_length : {A : Type 0} (n : ℕ) (f : ℕ → A) → length (tab n f) ≡ n
tab_length zero f = refl
tab_length (suc n) f = ap suc (tab_length n (λ (i : ℕ). f (suc i)))

-- 1 for place k itself, 0 for another
abbrev pub here : ℕ → ℕ → ℕ
here k i = bit (eqb k i)

here_suc : (k i : ℕ) → here (suc k) (suc i) ≡ here k i
here_suc k i =
    by_cases (eqb k i)
    (λ y. let h = eq-eqb (suc k) (suc i) (ap suc (eqb-true k i y)) in rw (y, h))
    (λ n. let h = ne_eqb (suc k) (suc i) (λ e. eqb-false k i n (omega arith)) in rw (n, h))

-- one more at place k is one more of f k
pub tab-more : (n : ℕ) (f : ℕ → ℕ) (k : ℕ) → k < n → one_more (tab n f) k ≡ tab n (λ (i : ℕ). f i + here k i)
tab-more zero f k h = absurd (omega arith)
tab-more (suc n) f zero h =
    ap (λ (l : List ℕ). (f 0 + 1) ∷ l) (tab-same n (λ (i : ℕ). f (suc i)) (λ (i : ℕ). f (suc i) + here 0 (suc i)) (λ i _. none (f (suc i)) i))
  where
    none : (m i : ℕ) → m ≡ m + here 0 (suc i)
    none m i = rw (ne_eqb 0 (suc i) (λ e. omega arith)) (omega arith)
tab-more (suc n) f (suc k) h =
    ap (λ (l : List ℕ). f 0 ∷ l)
    (tab-more n (λ (i : ℕ). f (suc i)) k (omega arith)
    ∙ tab-same n (λ (i : ℕ). f (suc i) + here k i) (λ (i : ℕ). f (suc i) + here (suc k) (suc i)) (λ i _. rw (here_suc k i)))
    ∙ ap (λ (m : ℕ). m ∷ tab n (λ (i : ℕ). f (suc i) + here (suc k) (suc i))) (first (f 0))
  where
    first : (m : ℕ) → m ≡ m + here (suc k) 0
    first m = rw (ne_eqb (suc k) 0 (λ e. omega arith)) (omega arith)
