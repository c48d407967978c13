-- The trailing zeros of need and not safety are the place of the lowest bit that is 1 in need and 0 in safety, over the numbers' lowest bits. Assumes nothing.
use mathlib.Core.Path.{◌≡◌, refl, ◌∙◌}
use mathlib.Core.Bool.{true, false, ◌&&◌, not}
use mathlib.Core.List.{List, [], ◌∷◌}
use mathlib.Core.Logic.{◌⊎◌, inl, inr, ⊎_elim}
use Prim.Native.Nat.{ℕ, zero, suc, ◌+◌, ◌-◌, ◌*◌, ◌/◌, ◌%◌, ◌^◌, ◌<◌, min}
use native.Mathlib.Omega.{arith}
use native.Mathlib.Numerals.{add-one}
use native.Mathlib.Nat.{div-one, pow-suc, div-div-eq-div-mul, mod-lt}
use lib.Dec.{eqb, lit<}
use lib.Bits.{bit_and, and_step, and_zero_r}
use lib.Count.{count_trailing_zeros}
use lib.Pow.{pow_pos, mod-pow-add}
use Rattle.mask.specs.Bits.{is_off, first_off, lowest_off}

-- one digit of need and one of safety
abbrev Digit : ℕ → ℕ → Type 0
Digit d e =
    ((eqb d 1 && not (eqb e 1) ≡ true) × (min d (1 - e) ≡ 1))
    ⊎ ((eqb d 1 && not (eqb e 1) ≡ false) × (min d (1 - e) ≡ 0))

digit : (d e : ℕ) → d < 2 → e < 2 → Digit d e
digit zero e p q = inr (refl, omega arith)
digit (suc zero) zero p q = inl (refl, refl)
digit (suc zero) (suc zero) p q = inr (refl, refl)
digit (suc zero) (suc (suc e)) p q = absurd (omega arith)
digit (suc (suc d)) e p q = absurd (omega arith)

-- the inputs j + 1 to j + n
abbrev pub inputs : ℕ → ℕ → List ℕ
inputs zero j = []
inputs (suc n) j = suc j ∷ inputs n (suc j)

-- need and not safety, over their n lowest bits
abbrev pub offs : ℕ → ℕ → ℕ → ℕ
offs n a s = bit_and (a % 2 ^ n) (2 ^ n - 1 - s % 2 ^ n)

-- the lowest of n + 1 bits, and the others
low_bit : (n a : ℕ) → (a % 2 ^ suc n / 2 ≡ a / 2 % 2 ^ n) × (a % 2 ^ suc n % 2 ≡ a % 2)
low_bit n a =
    let e : a % 2 ^ suc n ≡ (a / 2 % 2 ^ n) * 2 + a % 2 = rw add-one at (mod-pow-add a n 1) in
    (omega arith, omega arith)

split : (n a s : ℕ) → offs (suc n) a s ≡ offs n (a / 2) (s / 2) * 2 + min (a % 2) (1 - s % 2)
split n a s =
    let p = pow-suc 2 n in
    let l = mod-lt s (pow_pos (suc n)) in
    let h = low_bit n s in
    let half : (2 ^ suc n - 1 - s % 2 ^ suc n) / 2 ≡ 2 ^ n - 1 - s / 2 % 2 ^ n = omega arith in
    let odd : (2 ^ suc n - 1 - s % 2 ^ suc n) % 2 ≡ 1 - s % 2 = omega arith in
    rw (and_step (a % 2 ^ suc n) (2 ^ suc n - 1 - s % 2 ^ suc n), (low_bit n a).0, (low_bit n a).1, half, odd)

halved : (n j : ℕ) → n / 2 ^ j / 2 ≡ n / 2 ^ suc j
halved n j = rw pow-suc (div-div-eq-div-mul n (2 ^ j) 2)

module _ (need safety : ℕ) where
  -- what the bits m from bit j on say of the first of n inputs that is off
  abbrev First : ℕ → ℕ → ℕ → Type 0
  First n j m =
      (m ≡ 0 → first_off need safety (inputs n j) ≡ 0)
      × (0 < m → first_off need safety (inputs n j) ≡ j + count_trailing_zeros n m + 1)

  here : (n j m x : ℕ) → is_off need safety (suc j) ≡ true → m ≡ x * 2 + 1 → First (suc n) j m
  unfolding first_off count_trailing_zeros
  here n j m x w e =
      let m1 : m % 2 ≡ 1 = omega arith in
      (λ z. absurd (omega arith), λ p. rw (w, m1) (omega arith))

  above : (n j m x : ℕ) → is_off need safety (suc j) ≡ false → m ≡ x * 2 + 0 → First n (suc j) x → First (suc n) j m
  unfolding first_off count_trailing_zeros
  above n j m x w e next =
      let m0 : m % 2 ≡ 0 = omega arith in
      let mx : m / 2 ≡ x = omega arith in
      (λ z. rw w (next.0 (omega arith)), λ p. rw (w, m0, mx) (next.1 (omega arith) ∙ omega arith))

  abbrev At : ℕ → ℕ → Type 0
  At n j = First n j (offs n (need / 2 ^ j) (safety / 2 ^ j))

  step : (n j : ℕ) → At n (suc j) → At (suc n) j
  step n j next =
      let e = split n (need / 2 ^ j) (safety / 2 ^ j) in
      let k : suc j - 1 ≡ j = omega arith in
      let next' : First n (suc j) (offs n (need / 2 ^ j / 2) (safety / 2 ^ j / 2)) = rw (halved need j, halved safety j) next in
      ⊎_elim
      (λ w. here n j _ _ (rw k w.0) (rw w.1 at e))
      (λ w. above n j _ _ (rw k w.0) (rw w.1 at e) next')
      (digit (need / 2 ^ j % 2) (safety / 2 ^ j % 2) (mod-lt _ (lit< tt)) (mod-lt _ (lit< tt)))

  first : (n j : ℕ) → At n j
  unfolding first_off
  first zero j =
      let z : 2 ^ 0 - 1 - safety / 2 ^ j % 2 ^ 0 ≡ 0 = omega arith in
      let none : offs 0 (need / 2 ^ j) (safety / 2 ^ j) ≡ 0 = rw z (and_zero_r (need / 2 ^ j % 2 ^ 0)) in
      (λ e. refl, λ p. absurd (omega (arith, none)))
  first (suc n) j = step n j (first n (suc j))

  -- the eight inputs
  pub none_off : bit_and (need % 256) (255 - safety % 256) ≡ 0 → lowest_off need safety ≡ 0
  none_off z = (first 8 0).0 (rw (div-one need, div-one safety) z)

  pub some_off :
      0 < bit_and (need % 256) (255 - safety % 256) →
      lowest_off need safety ≡ count_trailing_zeros 8 (bit_and (need % 256) (255 - safety % 256)) + 1
  some_off p = rw (div-one need, div-one safety) at ((first 8 0).1 (rw (div-one need, div-one safety) p)) ∙ omega arith
