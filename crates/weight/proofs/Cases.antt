-- The six cases: one holds, no other does, and each gives the rounding. Assumes nothing.
use mathlib.Core.Path.{◌≡◌, refl, sym, ap, ◌∙◌}
use mathlib.Core.Bool.{true, false}
use Prim.Native.Nat.{ℕ, ◌+◌, ◌*◌, ◌≤◌, ◌<◌}
use native.Mathlib.Omega.{arith}
use lib.Dec.{ltb, eqb}
use lib.IntN.{ℤ, pos, negsuc, neg_ℤ, nat_abs}
use lib.Signed.{le_z, lt_z}
use borrow.Author.Tests.{ltb-true, ltb-false, le-ltb, lt-ltb, eqb-true, eqb-false, ne_eqb, le-leb, lt-leb}
use Rattle.laws.specs.Choice.{when◌then◌else◌}
use Rattle.laws.proofs.Signed.{not_neg}
use Rattle.laws.proofs.Tests.{both, and_intro, by_cases}
use Rattle.weight.specs.Mean.{nearest, rounded}
use Rattle.weight.specs.Cases.{quotient, remainder, holds, result_of, OneCase}
use Rattle.weight.specs.declared.rounding.Case.{Case}
use Rattle.weight.specs.declared.rounding.Case.TheVariants.{Below, Half, Above, NegativeBelow, NegativeHalf, NegativeAbove}
use Rattle.weight.proofs.Sign.{as_pos, as_neg}

-- a sum is at least 0 or negative
not_at_least : (s : ℤ) → lt_z s (pos 0) ≡ true → le_z (pos 0) s ≡ false
not_at_least (pos a) h = absurd (omega (arith, ltb-true a 0 h))
not_at_least (negsuc a) h = refl

pub negative : (s : ℤ) → le_z (pos 0) s ≡ false → lt_z s (pos 0) ≡ true
negative (pos a) h = absurd (not_neg a h)
negative (negsuc a) h = refl

-- below, at or above n: a choice by tests one after another
thirds : (x n : ℕ) {A : Type 0} → A → A → A → A
thirds x n a b c = when ltb x n then a else (when eqb x n then b else c)

module _ (x n : ℕ) {A : Type 0} (a b c : A) where
  at-below : ltb x n ≡ true → thirds x n a b c ≡ a
  unfolding thirds
  at-below h = simp h

  at-half : eqb x n ≡ true → thirds x n a b c ≡ b
  unfolding thirds
  at-half h = simp (h, le-ltb x n (omega (arith, eqb-true x n h)))

  at_above : ltb n x ≡ true → thirds x n a b c ≡ c
  unfolding thirds
  at_above h = let g = ltb-true n x h in simp (le-ltb x n (omega arith), ne_eqb x n (λ e. omega arith))

by_thirds : (x n : ℕ) {A : Type 0} → (ltb x n ≡ true → A) → (eqb x n ≡ true → A) → (ltb n x ≡ true → A) → A
by_thirds x n below half above =
    by_cases (ltb x n) below (λ f. by_cases (eqb x n) half (λ g. above (lt-ltb n x (past (ltb-false x n f) (eqb-false x n g)))))
  where
    past : n ≤ x → (x ≡ n → ⊥) → n < x
    past h d = omega arith

module _ (s : ℤ) (n : ℕ) where
  abbrev twice : ℕ
  twice = 2 * remainder s n

  -- a case that holds is the one that the tests choose
  chosen : Case
  chosen =
      when le_z (pos 0) s then thirds twice n Below Half Above
      else thirds twice n NegativeBelow NegativeHalf NegativeAbove

  at_least : {A : Type 0} (x y : A) → le_z (pos 0) s ≡ true → (when le_z (pos 0) s then x else y) ≡ x
  at_least x y h = simp h

  below_zero : {A : Type 0} (x y : A) → lt_z s (pos 0) ≡ true → (when le_z (pos 0) s then x else y) ≡ y
  below_zero x y h = simp (not_at_least s h)

  is-chosen : (c : Case) → holds c s n ≡ true → c ≡ chosen
  unfolding chosen
  is-chosen Below h = let b = both _ _ h in sym (at_least _ _ b.0 ∙ at-below _ _ _ _ _ b.1)
  is-chosen Half h = let b = both _ _ h in sym (at_least _ _ b.0 ∙ at-half _ _ _ _ _ b.1)
  is-chosen Above h = let b = both _ _ h in sym (at_least _ _ b.0 ∙ at_above _ _ _ _ _ b.1)
  is-chosen NegativeBelow h = let b = both _ _ h in sym (below_zero _ _ b.0 ∙ at-below _ _ _ _ _ b.1)
  is-chosen NegativeHalf h = let b = both _ _ h in sym (below_zero _ _ b.0 ∙ at-half _ _ _ _ _ b.1)
  is-chosen NegativeAbove h = let b = both _ _ h in sym (below_zero _ _ b.0 ∙ at_above _ _ _ _ _ b.1)

  -- and one of the six holds
  some-case : (c : Case) × (holds c s n ≡ true)
  some-case =
      by_cases (le_z (pos 0) s)
      (λ z. by_thirds twice n (λ b. (Below, and_intro z b)) (λ h. (Half, and_intro z h)) (λ a. (Above, and_intro z a)))
      (λ f. let z = negative s f in by_thirds twice n (λ b. (NegativeBelow, and_intro z b)) (λ h. (NegativeHalf, and_intro z h)) (λ a. (NegativeAbove, and_intro z a)))

  pub one_case : OneCase s n
  one_case = let c = some-case in record { case = c.0; applies = c.1; alone = λ d g. is-chosen d g ∙ sym (is-chosen c.0 c.1) }

  -- the quotient, and one more from half on
  whole : ltb twice n ≡ true → nearest (nat_abs s) n ≡ quotient s n
  unfolding nearest
  whole h = simp (lt-leb n (2 * remainder s n) (ltb-true _ _ h))

  one_more_lem : n ≤ twice → nearest (nat_abs s) n ≡ quotient s n + 1
  unfolding nearest
  one_more_lem h = simp (le-leb n (2 * remainder s n) h)

  from-half : eqb twice n ≡ true → n ≤ twice
  from-half h = omega (arith, eqb-true twice n h)

  from-above : ltb n twice ≡ true → n ≤ twice
  from-above h = omega (arith, ltb-true n twice h)

  -- and then the sign
  as_positive : {q : ℕ} → le_z (pos 0) s ≡ true → nearest (nat_abs s) n ≡ q → rounded s n ≡ pos q
  unfolding rounded
  as_positive z e = as_pos s (nearest (nat_abs s) n) z ∙ ap pos e

  as_negative : {q : ℕ} → lt_z s (pos 0) ≡ true → nearest (nat_abs s) n ≡ q → rounded s n ≡ neg_ℤ (pos q)
  unfolding rounded
  as_negative z e = as_neg s (nearest (nat_abs s) n) (not_at_least s z) ∙ ap (λ (q : ℕ). neg_ℤ (pos q)) e

  pub rounded_by : (c : Case) → holds c s n ≡ true → rounded s n ≡ result_of c s n
  rounded_by Below h = let b = both _ _ h in as_positive b.0 (whole b.1)
  rounded_by Half h = let b = both _ _ h in as_positive b.0 (one_more_lem (from-half b.1))
  rounded_by Above h = let b = both _ _ h in as_positive b.0 (one_more_lem (from-above b.1))
  rounded_by NegativeBelow h = let b = both _ _ h in as_negative b.0 (whole b.1)
  rounded_by NegativeHalf h = let b = both _ _ h in as_negative b.0 (one_more_lem (from-half b.1))
  rounded_by NegativeAbove h = let b = both _ _ h in as_negative b.0 (one_more_lem (from-above b.1))
