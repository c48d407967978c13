-- Counts that were tested to be small. Assumes nothing.
use mathlib.Core.Path.{◌≡◌, refl, sym}
use mathlib.Core.Bool.{true, false, ◌&&◌}
use mathlib.Core.List.{List, [], ◌∷◌, map}
use Prim.Native.Nat.{ℕ, zero, suc, ◌+◌, ◌≤◌, ◌<◌}
use native.Mathlib.Omega.{arith}
use lib.Dec.{eqb}
use lib.IntN.{ℤ, pos, negsuc, nat_abs}
use lib.Signed.{le_z}
use lib.ListN.{length, get_or, drop, drop_of_length-le}
use borrow.Author.Tests.{leb-true, leb-false, ne_eqb}
use Rattle.laws.proofs.Tests.{both, and_intro, by_cases, never}
use Rattle.lists.specs.Each.{all_of}
use Rattle.lists.specs.Counts.{add_up}
use Rattle.lists.proofs.Each.{rest}
use Rattle.tallies.specs.Memory.{small_count}

-- the number at a place was tested too
pub small_at : (l : List ℤ) (i : ℕ) → i < length l → all_of small_count l ≡ true → small_count (get_or l i (pos 0)) ≡ true
unfolding all_of
small_at [] i h a = absurd (omega arith)
small_at (x ∷ xs) zero h a = (both (small_count x) (all_of small_count xs) a).0
small_at (x ∷ xs) (suc i) h a = small_at xs i (omega arith) (both (small_count x) (all_of small_count xs) a).1

-- it is its size, which is small
pub small_is : (x : ℤ) → small_count x ≡ true → (x ≡ pos (nat_abs x)) × (nat_abs x ≤ 999999)
small_is (pos a) h = (refl, leb-true a 999999 (both (le_z (pos 0) (pos a)) (le_z (pos a) (pos 999999)) h).1)
small_is (negsuc a) h = never h

pub small_counts_lem : (l : List ℤ) → all_of small_count l ≡ true → all_of (le_z (pos 0)) l ≡ true
unfolding all_of
small_counts_lem [] h = refl
small_counts_lem (x ∷ xs) h =
    let b = both (small_count x) (all_of small_count xs) h in
    and_intro (both (le_z (pos 0) x) (le_z x (pos 999999)) b.0).0 (small_counts_lem xs b.1)

-- counts of which one is not small do not add to n
large_sum : (l : List ℤ) → all_of small_count l ≡ false → all_of (le_z (pos 0)) l ≡ true → 999999 < add_up (map nat_abs l)
unfolding all_of add_up
large_sum [] h c = never (sym h)
large_sum (negsuc a ∷ xs) h c = never c
large_sum (pos a ∷ xs) h c =
    let d = both (le_z (pos 0) (pos a)) (all_of (le_z (pos 0)) xs) c in
    by_cases (small_count (pos a))
    (λ y. omega (arith, large_sum xs (rw y at h) d.1))
    (λ n. omega (arith, over a d.0 n))
  where
    over : (a : ℕ) → le_z (pos 0) (pos a) ≡ true → small_count (pos a) ≡ false → 999999 < a
    over a t n = leb-false a 999999 (rw t at n)

pub large_fails : (l : List ℤ) (n : ℕ) → n ≤ 999999 → all_of small_count l ≡ false → (all_of (le_z (pos 0)) l && eqb (add_up (map nat_abs l)) n) ≡ false
large_fails l n m h =
    by_cases (all_of (le_z (pos 0)) l)
    (λ y. rw y (ne_eqb (add_up (map nat_abs l)) n (λ e. omega (arith, large_sum l h y))))
    (λ z. rw z refl)

-- the counts from place i on, one step further
pub sum-next : (l : List ℤ) (i : ℕ) → i < length l → add_up (map nat_abs (drop i l)) ≡ nat_abs (get_or l i (pos 0)) + add_up (map nat_abs (drop (i + 1) l))
unfolding add_up
sum-next l i h = rw (rest l i (pos 0) h)

pub sum-end : (l : List ℤ) (i : ℕ) → length l ≤ i → add_up (map nat_abs (drop i l)) ≡ 0
unfolding add_up
sum-end l i h = rw (drop_of_length-le l h)
