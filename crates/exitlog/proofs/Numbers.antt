-- The digits of a number without a sign, one by one. Assumes nothing.
use Prim.Native.Nat.{ℕ, zero, suc, ◌+◌, ◌-◌, ◌*◌, ◌≤◌, ◌<◌}
use mathlib.Core.Path.{◌≡◌, ap}
use mathlib.Core.Bool.{Bool, true, false}
use mathlib.Core.List.{List, [], ◌∷◌}
use native.Mathlib.Omega.{arith}
use lib.Dec.{eqb, leb}
use lib.IntN.{ℤ, pos, negsuc, nat_abs}
use lib.ListN.{length, get_or, drop, drop_of_length-le}
use borrow.Author.Tests.{leb-true, le-leb, eqb-true}
use Rattle.laws.specs.Choice.{within}
use Rattle.laws.proofs.Tests.{both, and_intro, by_cases, never}
use Rattle.lists.proofs.Past.{cut}
use Rattle.field.proofs.Fields.{nothing-found, same-value, same_rest}
use Rattle.numeral.specs.Number.{some, is_digit, digit_of, signed, digits, positive, number_head}

-- ---- a number that was found is that number

is_pos : ℤ → Bool
is_pos (pos n) = true
is_pos (negsuc n) = false

pub same_number : {m n : ℕ} {s r : List ℕ} → some (pos m) s ≡ some (pos n) r → m ≡ n
same_number e = ap nat_abs (same-value e)

pub not_pos : {A : Type 0} {m n : ℕ} → negsuc m ≡ pos n → A
unfolding is_pos
not_pos e = never (ap is_pos e)

none-behind : {A : Type 0} {b : ℕ} {s : List ℕ} → b ∷ s ≡ [] → A
none-behind {b = b} {s = s} e = let n = ap length e in absurd (omega (arith, n))

-- ---- a minus sign gives no number without one

below_not_pos : {A : Type 0} (m n : ℕ) → 0 < m → signed true m ≡ pos n → A
below_not_pos zero n h e = absurd (omega (arith, h))
below_not_pos (suc m) n h e = not_pos e

digits-below : {A : Type 0} (m : ℕ) (s : List ℕ) (n : ℕ) (r : List ℕ) → 0 < m → digits true m s ≡ some (pos n) r → A
digits-below m [] n r h e = below_not_pos m n h (same-value e)
digits-below m (b ∷ s) n r h e =
    by_cases (is_digit b)
    (λ y. digits-below (m * 10 + digit_of b) s n r (omega (arith, h)) (rw y at e))
    (λ y. below_not_pos m n h (same-value (rw y at e)))

positive-below : {A : Type 0} (s : List ℕ) (n : ℕ) (r : List ℕ) → positive true s ≡ some (pos n) r → A
positive-below [] n r e = nothing-found (pos n) r e
positive-below (b ∷ s) n r e =
    by_cases (within 49 57 b)
    (λ y. let l = leb-true 49 b (both (leb 49 b) (leb b 57) y).0 in digits-below (digit_of b) s n r (omega (arith, l)) (rw y at e))
    (λ y. nothing-found (pos n) r (rw y at e))

-- ---- a number without a sign is its digits

pub number_digits : (s : List ℕ) (n : ℕ) → number_head s ≡ some (pos n) [] → digits false 0 s ≡ some (pos n) []
number_digits [] n e = nothing-found (pos n) [] e
number_digits (b ∷ s) n e =
    by_cases (eqb b 48)
    (λ y.
    let z = rw y at e in
    let none_left_lem : s ≡ [] = same_rest z in
    rw (eqb-true b 48 y, none_left_lem) (ap (λ (k : ℕ). some (pos k) []) (same_number z)))
    (λ x. by_cases (eqb b 45)
    (λ y. positive-below s n [] (rw (x, y) at e))
    (λ y. by_cases (within 49 57 b)
    (λ z.
    let q = both (leb 49 b) (leb b 57) z in
    let l = leb-true 49 b q.0 in
    let digit : is_digit b ≡ true = and_intro (le-leb 48 b (omega (arith, l))) q.1 in
    let first : 0 * 10 + digit_of b ≡ digit_of b = omega arith in
    rw (digit, first) (rw (x, y, z) at e))
    (λ z. nothing-found (pos n) [] (rw (x, y, z) at e))))

-- the number is at least what its first digits are
pub digits-least : (k : ℕ) (s : List ℕ) (n : ℕ) (r : List ℕ) → digits false k s ≡ some (pos n) r → k ≤ n
digits-least k [] n r e = let h = same_number e in omega (arith, h)
digits-least k (b ∷ s) n r e =
    by_cases (is_digit b)
    (λ y. let h = digits-least (k * 10 + digit_of b) s n r (rw y at e) in omega (arith, h))
    (λ y. let h = same_number (rw y at e) in omega (arith, h))

-- where only digits stand to the end, the next byte is one
next-digit : (k b : ℕ) (s : List ℕ) (v : ℤ) → digits false k (b ∷ s) ≡ some v [] → (is_digit b ≡ true) × (digits false (k * 10 + digit_of b) s ≡ some v [])
next-digit k b s v e =
    by_cases (is_digit b)
    (λ y. (y, rw y at e))
    (λ y. none-behind (same_rest (rw y at e)))

pub record Digit (line : List ℕ) (i k : ℕ) (v : ℤ) : Type 0 where
  pub least : 48 ≤ get_or line i 0
  pub most : get_or line i 0 ≤ 57
  pub next : digits false (k * 10 + (get_or line i 0 - 48)) (drop (i + 1) line) ≡ some v []

pub digit_at : (line : List ℕ) (i k : ℕ) (v : ℤ) → i < length line → digits false k (drop i line) ≡ some v [] → Digit line i k v
digit_at line i k v h e =
    let d = next-digit k (get_or line i 0) (drop (i + 1) line) v (rw (cut line i h) at e) in
    let q = both (leb 48 (get_or line i 0)) (leb (get_or line i 0) 57) d.0 in
    record { least = leb-true 48 (get_or line i 0) q.0; most = leb-true (get_or line i 0) 57 q.1; next = d.1 }

pub last-digit : (line : List ℕ) (i k n : ℕ) → length line ≤ i → digits false k (drop i line) ≡ some (pos n) [] → k ≡ n
last-digit line i k n h e = same_number (rw (drop_of_length-le line h) at e)
