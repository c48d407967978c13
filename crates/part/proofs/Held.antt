-- The formula gives the class that holds a net. Net and target are taken so much higher that they are natural numbers. Assumes nothing.
use mathlib.Core.Path.{◌≡◌, refl, sym, subst, ◌∙◌}
use mathlib.Core.Bool.{true, false, ◌||◌}
use Prim.Native.Nat.{ℕ, ◌+◌, ◌*◌, ◌/◌, ◌%◌, ◌≤◌, ◌<◌, min}
use native.Mathlib.Decide.{dec_le}
use native.Mathlib.Nat.{div-add-mod', mod-lt, lt_of_not-le}
use native.Mathlib.Omega.{arith}
use lib.Dec.{eqb, leb}
use lib.IntN.{ℤ, pos, nat_abs, ◌-ℤ◌}
use lib.Signed.{lt_z, le_z}
use borrow.Author.Tests.{eq-eqb, ne_eqb, eqb-false, leb-true, le-leb, ltb-true, ltb-false}
use Rattle.laws.proofs.Tests.{both, and_intro, if_ind, by_cases, never}
use Rattle.laws.proofs.Signed.{abs_add, abs_sub}
use Rattle.laws.proofs.Shift.{up, le_up, neg_up, up_add, up_sub, size-up}
use Rattle.part.specs.Class.{lowest, highest, holds, above, class_of}
use Rattle.part.specs.Law.{ClassLaw}

pub class-known : (net target : ℤ) → class_of net target ≤ 20
unfolding class_of
class-known net target =
    if_ind (λ (k : ℕ). k ≤ 20) (lt_z (above net target) (pos 0)) _ _ (λ _. omega arith) (λ _. omega arith)

module _ (net target : ℤ) where
  abbrev n : ℕ
  n = nat_abs net + nat_abs target + 1000

  -- ---- the ends of a class, and the net above class 0, as natural numbers

  abbrev five : ℤ
  five = target -ℤ pos 5

  five-size : nat_abs five ≤ nat_abs target + 5
  five-size = abs_sub target (pos 5)

  five-up : up n five + 5 ≡ up n target
  five-up = omega (arith, up_sub n target (pos 5) (omega arith))

  steps_size : (k : ℕ) → nat_abs (pos (11 * k) -ℤ pos 110) ≤ 11 * k + 110
  steps_size k = abs_sub (pos (11 * k)) (pos 110)

  steps_up : (k : ℕ) → k ≤ 20 → up n (pos (11 * k) -ℤ pos 110) + 110 ≡ n + 11 * k
  steps_up k h = omega (arith, up_sub n (pos (11 * k)) (pos 110) (omega arith))

  lowest-size : (k : ℕ) → k ≤ 20 → nat_abs (lowest k target) ≤ nat_abs target + 335
  lowest-size k h = omega (arith, abs_add five (pos (11 * k) -ℤ pos 110), five-size, steps_size k)

  lowest-up : (k : ℕ) → k ≤ 20 → up n (lowest k target) + 115 ≡ up n target + 11 * k
  lowest-up k h =
      omega (arith, up_add n five (pos (11 * k) -ℤ pos 110) (omega (arith, five-size, steps_size k)), five-up, steps_up k h)

  highest-up : (k : ℕ) → k ≤ 20 → up n (highest k target) + 105 ≡ up n target + 11 * k
  highest-up k h = omega (arith, up_add n (lowest k target) (pos 10) (omega (arith, lowest-size k h)), lowest-up k h)

  above-size : nat_abs (above net target) ≤ nat_abs net + nat_abs target + 115
  above-size = omega (arith, abs_add (net -ℤ target) (pos 115), abs_sub net target)

  above-up : up n (above net target) + up n target ≡ up n net + n + 115
  above-up =
      omega (arith, up_add n (net -ℤ target) (pos 115) (omega (arith, abs_sub net target)), up_sub n net target (omega arith))

  -- ---- a class holds a net

  low-is : (k : ℕ) → k ≤ 20 → le_z (lowest k target) net ≡ leb (up n (lowest k target)) (up n net)
  low-is k h = le_up n (lowest k target) net (omega (arith, lowest-size k h)) (omega arith)

  high_is : (k : ℕ) → k ≤ 20 → le_z net (highest k target) ≡ leb (up n net) (up n (highest k target))
  high_is k h = le_up n net (highest k target) (omega arith) (omega (arith, abs_add (lowest k target) (pos 10), lowest-size k h))

  -- from its two ends
  holding : (k : ℕ) → k ≤ 20 → (0 < k → up n (lowest k target) ≤ up n net) → (k < 20 → up n net ≤ up n (highest k target)) → holds k net target ≡ true
  unfolding holds
  holding k h low high =
      and_intro {a = eqb k 0 || le_z (lowest k target) net} {b = eqb k 20 || le_z net (highest k target)}
      (by_cases (eqb k 0) (λ y. rw y refl) (λ z. rw (z, low-is k h) (le-leb _ _ (low (omega (arith, eqb-false k 0 z))))))
      (by_cases (eqb k 20) (λ y. rw y refl) (λ z. rw (z, high_is k h) (le-leb _ _ (high (omega (arith, eqb-false k 20 z))))))

  -- and back
  module _ (k : ℕ) (h : k ≤ 20) (held : holds k net target ≡ true) where
    ends : (eqb k 0 || le_z (lowest k target) net ≡ true) × (eqb k 20 || le_z net (highest k target) ≡ true)
    unfolding holds
    ends = both (eqb k 0 || le_z (lowest k target) net) (eqb k 20 || le_z net (highest k target)) held

    from : 0 < k → up n (lowest k target) ≤ up n net
    from p = leb-true _ _ (sym (low-is k h) ∙ rw (ne_eqb k 0 (λ e. omega arith)) at ends.0)

    to : k < 20 → up n net ≤ up n (highest k target)
    to p = leb-true _ _ (sym (high_is k h) ∙ rw (ne_eqb k 20 (λ e. omega arith)) at ends.1)

  -- ---- the formula

  -- below the place where class 0 would begin
  low-class : lt_z (above net target) (pos 0) ≡ true → up n (above net target) < n
  low-class t = ltb-true _ _ (sym (neg_up n (above net target) (omega (arith, above-size))) ∙ t)

  -- from there on: whole widths
  high-class : lt_z (above net target) (pos 0) ≡ false → up n (above net target) ≡ n + nat_abs (above net target)
  high-class t =
      size-up n (above net target) (ltb-false _ _ (sym (neg_up n (above net target) (omega (arith, above-size))) ∙ t)) (omega (arith, above-size))

  pub class-held : holds (class_of net target) net target ≡ true
  unfolding class_of
  class-held =
      if_ind (λ (k : ℕ). holds k net target ≡ true) (lt_z (above net target) (pos 0)) _ _
      (λ t. holding 0 (omega arith) (λ p. absurd (omega arith)) (λ _. omega (arith, low-class t, above-up, highest-up 0 (omega arith))))
      (λ t. wide (high-class t))
    where
      wide : up n (above net target) ≡ n + nat_abs (above net target) → holds (min 20 (nat_abs (above net target) / 11)) net target ≡ true
      wide e =
          let v = nat_abs (above net target) in
          let k = min 20 (v / 11) in
          let m : v % 11 < 11 = mod-lt v (omega arith) in
          let h : k ≤ 20 = omega arith in
          holding k h
          (λ p. omega (arith, e, above-up, lowest-up k h, div-add-mod' v 11))
          (λ p. omega (arith, e, above-up, highest-up k h, div-add-mod' v 11))

  pub class-only : (k : ℕ) → k ≤ 20 → holds k net target ≡ true → k ≡ class_of net target
  unfolding class_of
  class-only k h held =
      by_cases (lt_z (above net target) (pos 0))
      (λ t. rw t (elim (dec_le k 0) [ yes z ↦ omega arith | no f ↦ absurd (omega (arith, low-class t, above-up, lowest-up k h, from k h held (lt_of_not-le f))) ]))
      (λ t. rw t (wide (high-class t)))
    where
      wide : up n (above net target) ≡ n + nat_abs (above net target) → k ≡ min 20 (nat_abs (above net target) / 11)
      wide e =
          let v = nat_abs (above net target) in
          let m : v % 11 < 11 = mod-lt v (omega arith) in
          let low : 11 * k ≤ v = elim (dec_le k 0) [ yes z ↦ omega arith | no f ↦ omega (arith, e, above-up, lowest-up k h, from k h held (lt_of_not-le f)) ] in
          elim (dec_le 20 k) [
            | yes z ↦ omega (arith, div-add-mod' v 11)
            | no f ↦ omega (arith, e, above-up, highest-up k h, to k h held (lt_of_not-le f), div-add-mod' v 11)
          ]

  -- a class holds a net exactly if it is the net's
  pub holds-is : (k : ℕ) → k ≤ 20 → holds k net target ≡ eqb (class_of net target) k
  holds-is k h =
      by_cases (holds k net target)
      (λ y. y ∙ sym (eq-eqb _ _ (sym (class-only k h y))))
      (λ f. f ∙ sym (ne_eqb (class_of net target) k (λ e. never (sym f ∙ subst (λ (j : ℕ). holds j net target ≡ true) e class-held))))

pub class_law : ClassLaw
class_law = record { known = class-known; held = class-held; only = λ k net target. class-only net target k }
