-- What a step of the reader does to the rest of the line. Assumes nothing.
use Prim.Native.Nat.{ℕ, zero, suc, ◌+◌, ◌-◌, ◌*◌, ◌^◌, ◌≤◌, ◌<◌, min}
use mir.Val.{to_z}
use mir.Syntax.{w64}
use Rattle.laws.proofs.Signed.{to_z_small}
use mathlib.Core.Path.{◌≡◌, refl, sym, ap, ◌∙◌}
use mathlib.Core.Bool.{Bool, true, false, ◌&&◌, and-false}
use mathlib.Core.List.{List, [], ◌∷◌}
use lib.ListN.{length, get_or, drop, drop_of_length-le}
use lib.Dec.{leb}
use lib.IntN.{pos}
use native.Mathlib.Decide.{dec_le}
use native.Mathlib.Nat.{lt_of_not-le}
use native.Mathlib.Omega.{arith}
use lib.Seq.{drop-drop}
use borrow.Author.Tests.{leb-true, eqb-true, le-leb}
use Rattle.laws.specs.Choice.{when◌then◌else◌, within}
use Rattle.laws.proofs.Tests.{both, and_intro, never}
use Rattle.lists.proofs.Past.{cut}
use Rattle.numeral.specs.Number.{none, some, is_digit, digit_of, signed, digits, positive, number_head, four_digits, four_number, four_head, limit, hold}
use Rattle.numeral.specs.Found.{byte_is, digit_head, held_head}
use Rattle.std.specs.Prelude.{Some, None}
use Rattle.std.proofs.lemmas.Option.{none-some, same_Some}

-- the byte at a place, where a test of the rest of the line is passed
pub inside : (P : List ℕ → Bool) (line : List ℕ) (i : ℕ) → P [] ≡ false → P (drop i line) ≡ true → i < length line
inside P line i empty h =
    elim (dec_le (length line) i) [
      | yes le ↦ never (sym empty ∙ (rw (drop_of_length-le line le) at h))
      | no f ↦ lt_of_not-le f
    ]

pub record Byte (c : ℕ) (line : List ℕ) (i : ℕ) : Type 0 where
  pub inside : i < length line
  pub rest : drop i line ≡ c ∷ drop (i + 1) line

pub byte-here : (c : ℕ) (line : List ℕ) (i : ℕ) → byte_is c (drop i line) ≡ true → Byte c line i
byte-here c line i h =
    let l = inside (byte_is c) line i refl h in
    let e : get_or line i 0 ≡ c = eqb-true (get_or line i 0) c (rw (cut line i l) at h) in
    record { inside = l; rest = cut line i l ∙ ap (λ (b : ℕ). b ∷ drop (i + 1) line) e }

pub record Digit (line : List ℕ) (i d : ℕ) : Type 0 where
  pub inside : i < length line
  pub test : is_digit (get_or line i 0) ≡ true
  pub least : 48 ≤ get_or line i 0
  pub most : get_or line i 0 ≤ 57
  pub value : d ≡ get_or line i 0 - 48

chosen : (b : Bool) (x d : ℕ) → Some d ≡ (when b then Some x else None) → (b ≡ true) × (d ≡ x)
chosen true x d h = (refl, same_Some d x h)
chosen false x d h = absurd (none-some d (sym h))

-- no digit stands there
unchosen : (b : Bool) (x : ℕ) → None ≡ (when b then Some x else None) → b ≡ false
unchosen true x h = absurd (none-some x h)
unchosen false x h = refl

pub digit-here : (line : List ℕ) (i d : ℕ) → Some d ≡ digit_head (drop i line) → Digit line i d
digit-here line i d h =
    elim (dec_le (length line) i) [
      | yes le ↦ absurd (none-some d (sym (rw (drop_of_length-le line le) at h)))
      | no f ↦ go (lt_of_not-le f)
    ]
  where
    go : i < length line → Digit line i d
    go l =
        let b = get_or line i 0 in
        let c = chosen (is_digit b) (b - 48) d (rw (cut line i l) at h) in
        let p = both (leb 48 b) (leb b 57) c.0 in
        record { inside = l; test = c.0; least = leb-true 48 b p.0; most = leb-true b 57 p.1; value = c.1 }

-- Digits.

pub hold-signed : (below : Bool) (n : ℕ) → hold (signed below n) ≡ signed below (min n limit)
hold-signed true zero = refl
hold-signed true (suc n) = refl
hold-signed false n = refl

held-end : (below : Bool) (n m : ℕ) (s : List ℕ) → min n limit ≡ min m limit → held_head (some (signed below n) s) ≡ held_head (some (signed below m) s)
held-end below n m s h = rw (hold-signed below n, hold-signed below m, h)

-- numbers that are held the same are held the same behind any digits
held_same : (below : Bool) (n m : ℕ) (s : List ℕ) → min n limit ≡ min m limit → held_head (digits below n s) ≡ held_head (digits below m s)
held_same below n m [] h = held-end below n m [] h
held_same below n m (b ∷ s) h = go (is_digit b) (held_same below (n * 10 + (b - 48)) (m * 10 + (b - 48)) s (omega arith))
  where
    go : (t : Bool) → held_head (digits below (n * 10 + (b - 48)) s) ≡ held_head (digits below (m * 10 + (b - 48)) s)
        → held_head (when t then digits below (n * 10 + (b - 48)) s else some (signed below n) (b ∷ s))
        ≡ held_head (when t then digits below (m * 10 + (b - 48)) s else some (signed below m) (b ∷ s))
    go true e = e
    go false e = held-end below n m (b ∷ s) h

pub digits-end : (below : Bool) (n : ℕ) (s : List ℕ) → None ≡ digit_head s → digits below n s ≡ some (signed below n) s
digits-end below n [] h = refl
digits-end below n (b ∷ s) h = rw (unchosen (is_digit b) (digit_of b) h) refl

module _ (line : List ℕ) (i n : ℕ) (below : Bool) where
  pub digits_step : (d : ℕ) → Digit line i d
      → held_head (digits below (min (n * 10 + d) limit) (drop (i + 1) line)) ≡ held_head (digits below n (drop i line))
  digits_step d h =
      rw (cut line i h.inside, h.test, h.value)
      (held_same below (min (n * 10 + (get_or line i 0 - 48)) limit) (n * 10 + (get_or line i 0 - 48)) (drop (i + 1) line) (omega arith))

pub positive-more : (line : List ℕ) (i d : ℕ) (below : Bool) → Digit line i d → (d ≡ 0 → ⊥)
    → held_head (digits below d (drop (i + 1) line)) ≡ held_head (positive below (drop i line))
positive-more line i d below h p =
    let least : 49 ≤ get_or line i 0 = omega (arith, h.least, h.value, p) in
    let e : within 49 57 (get_or line i 0) ≡ true = and_intro (le-leb 49 (get_or line i 0) least) (le-leb (get_or line i 0) 57 h.most) in
    rw (cut line i h.inside, e, h.value) refl

-- A number by its first byte.

module _ (line : List ℕ) (i : ℕ) where
  pub number_zero : Byte 48 line i → some (pos 0) (drop (i + 1) line) ≡ held_head (number_head (drop i line))
  number_zero b = rw b.rest

  pub number-minus : Byte 45 line i → held_head (positive true (drop (i + 1) line)) ≡ held_head (number_head (drop i line))
  number-minus b = rw b.rest

-- Four digits.

pub digit-bounds : (b : ℕ) → is_digit b ≡ true → (48 ≤ b) × (b ≤ 57)
digit-bounds b e = let q = both (leb 48 b) (leb b 57) e in (leb-true 48 b q.0, leb-true b 57 q.1)

pub record Bounds (a b c d : ℕ) : Type 0 where
  pub first : (48 ≤ a) × (a ≤ 57)
  pub second : (48 ≤ b) × (b ≤ 57)
  pub third : (48 ≤ c) × (c ≤ 57)
  pub fourth : (48 ≤ d) × (d ≤ 57)

pub four-bounds : (a b c d : ℕ) → four_digits a b c d ≡ true → Bounds a b c d
four-bounds a b c d e =
    let p = both (is_digit a) (is_digit b && (is_digit c && is_digit d)) e in
    let q = both (is_digit b) (is_digit c && is_digit d) p.1 in
    let r = both (is_digit c) (is_digit d) q.1 in
    record { first = digit-bounds a p.0; second = digit-bounds b q.0; third = digit-bounds c r.0; fourth = digit-bounds d r.1 }

-- the first byte that is no digit decides
four-missed : (s : List ℕ) (k : ℕ) → k < 4 → None ≡ digit_head (drop k s) → none ≡ held_head (four_head s)
four-missed [] k h e = refl
four-missed (a ∷ []) k h e = refl
four-missed (a ∷ b ∷ []) k h e = refl
four-missed (a ∷ b ∷ c ∷ []) k h e = refl
four-missed (a ∷ b ∷ c ∷ d ∷ s) zero h e = rw (unchosen (is_digit a) (digit_of a) e) refl
four-missed (a ∷ b ∷ c ∷ d ∷ s) (suc zero) h e = rw (unchosen (is_digit b) (digit_of b) e, and-false (is_digit a)) refl
four-missed (a ∷ b ∷ c ∷ d ∷ s) (suc (suc zero)) h e = rw (unchosen (is_digit c) (digit_of c) e, and-false (is_digit b), and-false (is_digit a)) refl
four-missed (a ∷ b ∷ c ∷ d ∷ s) (suc (suc (suc zero))) h e =
    rw (unchosen (is_digit d) (digit_of d) e, and-false (is_digit c), and-false (is_digit b), and-false (is_digit a)) refl
four-missed (a ∷ b ∷ c ∷ d ∷ s) (suc (suc (suc (suc k)))) h e = absurd (omega (arith, h))

pub four-none : (line : List ℕ) (i k : ℕ) → k < 4 → None ≡ digit_head (drop (i + k) line) → none ≡ held_head (four_head (drop i line))
four-none line i k h e = four-missed (drop i line) k h (rw (drop-drop k i line) e)

four-cut : (line : List ℕ) (i : ℕ) → i + 4 ≤ length line
    → drop i line ≡ get_or line i 0 ∷ get_or line (i + 1) 0 ∷ get_or line (i + 2) 0 ∷ get_or line (i + 3) 0 ∷ drop (i + 4) line
four-cut line i h =
    let e2 : i + 1 + 1 ≡ i + 2 = omega arith in
    let e3 : i + 2 + 1 ≡ i + 3 = omega arith in
    let e4 : i + 3 + 1 ≡ i + 4 = omega arith in
    let c2 : drop (i + 1) line ≡ get_or line (i + 1) 0 ∷ drop (i + 2) line = rw e2 at (cut line (i + 1) (omega arith)) in
    let c3 : drop (i + 2) line ≡ get_or line (i + 2) 0 ∷ drop (i + 3) line = rw e3 at (cut line (i + 2) (omega arith)) in
    let c4 : drop (i + 3) line ≡ get_or line (i + 3) 0 ∷ drop (i + 4) line = rw e4 at (cut line (i + 3) (omega arith)) in
    cc (cut line i (omega arith))

pub four-found : (line : List ℕ) (i a b c d : ℕ) → Digit line i a → Digit line (i + 1) b → Digit line (i + 2) c → Digit line (i + 3) d
    → some (pos (a * 1000 + b * 100 + c * 10 + d)) (drop (i + 4) line) ≡ held_head (four_head (drop i line))
four-found line i a b c d p q r t =
    let w = get_or line i 0 in
    let x = get_or line (i + 1) 0 in
    let y = get_or line (i + 2) 0 in
    let z = get_or line (i + 3) 0 in
    let small : four_number w x y z ≡ min (four_number w x y z) limit = omega (arith, p.most, q.most, r.most, t.most) in
    let n : a * 1000 + b * 100 + c * 10 + d ≡ four_number w x y z = cc (p.value, q.value, r.value, t.value) in
    rw (four-cut line i (omega (arith, t.inside)), p.test, q.test, r.test, t.test, n)
    (ap (λ (m : ℕ). some (pos m) (drop (i + 4) line)) small)

-- the same of what is read at each of the four places
module _ (line : List ℕ) (i : ℕ) where
  pub four_none_2 : digit_head (drop (i + 1) line) ≡ None → held_head (four_head (drop i line)) ≡ none
  four_none_2 e = sym (four-none line i 1 (omega arith) (sym e))

  pub four_none_3 : digit_head (drop (i + 2) line) ≡ None → held_head (four_head (drop i line)) ≡ none
  four_none_3 e = sym (four-none line i 2 (omega arith) (sym e))

  pub four_none_4 : digit_head (drop (i + 3) line) ≡ None → held_head (four_head (drop i line)) ≡ none
  four_none_4 e = sym (four-none line i 3 (omega arith) (sym e))

  pub four_read : (a b c d : ℕ) → digit_head (drop i line) ≡ Some a → digit_head (drop (i + 1) line) ≡ Some b
      → digit_head (drop (i + 2) line) ≡ Some c → digit_head (drop (i + 3) line) ≡ Some d
      → held_head (four_head (drop i line)) ≡ some (to_z w64 (a * 1000 + b * 100 + c * 10 + d)) (drop (i + 4) line)
  four_read a b c d ea eb ec ed =
      let p = digit-here line i a (sym ea) in
      let q = digit-here line (i + 1) b (sym eb) in
      let r = digit-here line (i + 2) c (sym ec) in
      let t = digit-here line (i + 3) d (sym ed) in
      let small : a * 1000 + b * 100 + c * 10 + d < 2 ^ 63 = omega (arith, p.value, q.value, r.value, t.value, p.most, q.most, r.most, t.most) in
      rw (to_z_small (a * 1000 + b * 100 + c * 10 + d) small) (sym (four-found line i a b c d p q r t))
