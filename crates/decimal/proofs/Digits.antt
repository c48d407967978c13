-- Laws of a number's digits. Assumes nothing.
use Prim.Native.Nat.{ℕ, suc, zero, ◌+◌, ◌*◌, ◌/◌, ◌%◌, ◌^◌, ◌≤◌, ◌<◌}
use mathlib.Core.Path.{◌≡◌, ap, ◌∙◌}
use mathlib.Core.List.{List, [], ◌∷◌, ◌++◌}
use lib.Dec.{ltb}
use lib.IntN.{ℤ, pos, negsuc, nat_abs}
use lib.Signed.{mag}
use lib.ListN.{length, length-append}
use native.Mathlib.Omega.{arith}
use native.Mathlib.Nat.{pow-suc}
use borrow.Author.Tests.{lt-ltb, le-ltb, ltb-true, ltb-false}
use Rattle.laws.proofs.Tests.{if_ind, by_cases}
use Rattle.decimal.specs.Bytes.{digit_byte}
use Rattle.decimal.specs.Number.{decimal_by, decimal}

-- fuel does not matter where there is enough
any_fuel : (k j n : ℕ) → n < k → n < j → decimal_by k n ≡ decimal_by j n
any_fuel zero j n h g = absurd (omega arith)
any_fuel (suc k) zero n h g = absurd (omega arith)
any_fuel (suc k) (suc j) n h g =
    if_ind (λ (l : List ℕ). l ≡ decimal_by (suc j) n) (ltb n 10) _ _
    (λ e. rw e)
    (λ e. let ge = ltb-false n 10 e in rw e (ap (λ (l : List ℕ). l ++ (digit_byte (n % 10) ∷ [])) (any_fuel k j (n / 10) (omega arith) (omega arith))))

-- one digit, and one digit more
pub decimal_digit : (n : ℕ) → n < 10 → decimal n ≡ (48 + n) ∷ []
unfolding decimal
decimal_digit n h = rw (lt-ltb n 10 h)

pub decimal-more : (n : ℕ) → 10 ≤ n → decimal n ≡ decimal (n / 10) ++ ((48 + n % 10) ∷ [])
unfolding decimal
decimal-more n h = rw (le-ltb n 10 h) (ap (λ (l : List ℕ). l ++ ((48 + n % 10) ∷ [])) (any_fuel n (suc (n / 10)) (n / 10) (omega arith) (omega arith)))

-- to show a thing of a number's digits, show it of one digit and of one digit more
module _ (P : ℕ → List ℕ → Type 0) (one : (n : ℕ) → n < 10 → P n ((48 + n) ∷ []))
    (more : (n : ℕ) → 10 ≤ n → P (n / 10) (decimal (n / 10)) → P n (decimal (n / 10) ++ ((48 + n % 10) ∷ []))) where
  below : (k n : ℕ) → n < k → P n (decimal n)
  below zero n h = absurd (omega arith)
  below (suc k) n h =
      by_cases (ltb n 10)
      (λ e. let lt = ltb-true n 10 e in rw (decimal_digit n lt) (one n lt))
      (λ e. let ge = ltb-false n 10 e in rw (decimal-more n ge) (more n ge (below k (n / 10) (omega arith))))

  pub by_digits : (n : ℕ) → P n (decimal n)
  by_digits n = below (suc n) n (omega arith)

pub length_more : (n : ℕ) → 10 ≤ n → length (decimal n) ≡ length (decimal (n / 10)) + 1
length_more n h = ap length (decimal-more n h) ∙ length-append (decimal (n / 10)) ((48 + n % 10) ∷ [])

pub length_digit : (n : ℕ) → n < 10 → length (decimal n) ≡ 1
length_digit n h = ap length (decimal_digit n h)

-- below 10 to a power, no more digits than that power
at_most : (k n : ℕ) → n < 10 ^ suc k → length (decimal n) ≤ suc k
at_most zero n h = let l = length_digit n h in omega arith
at_most (suc k) n h =
    by_cases (ltb n 10)
    (λ e. let l = length_digit n (ltb-true n 10 e) in omega arith)
    (λ e.
    let l = length_more n (ltb-false n 10 e) in
    let p : 10 ^ suc (suc k) ≡ 10 ^ suc k * 10 = pow-suc 10 (suc k) in
    let m = at_most k (n / 10) (omega arith) in
    omega arith)

-- a u64 has at most 20 digits
pub at_most_20 : (n : ℕ) → n < 2 ^ 64 → length (decimal n) ≤ 20
at_most_20 n h = at_most 19 n (omega arith)

-- the size of a signed number
pub size_at-most_19 : (v : ℤ) → mag v < 2 ^ 63 → length (decimal (nat_abs v)) ≤ 19
size_at-most_19 (pos n) h = at_most 18 n (omega arith)
size_at-most_19 (negsuc n) h = at_most 18 (suc n) (omega arith)
