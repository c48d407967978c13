-- The mask of two means has exactly the outcomes of the means between them. Assumes nothing.
use mathlib.Core.Path.{◌≡◌, sym, ap, ◌∙◌}
use mathlib.Core.Bool.{Bool, true, false, ◌&&◌}
use mathlib.Core.List.{List, [], ◌∷◌}
use Prim.Native.Nat.{ℕ, zero, suc}
use native.Mathlib.Omega.{arith}
use lib.IntN.{ℤ, pos, ◌+ℤ◌, ◌-ℤ◌}
use lib.ListN.{get_or}
use lib.Signed.{lt_z, le_z, ◌<ℤ◌, ◌≤ℤ◌}
use borrow.Author.Differences.{ints}
use Rattle.std.specs.Int.{int_max}
use Rattle.std.proofs.lemmas.Int.{clamps}
use Rattle.laws.proofs.Tests.{by_cases, never}
use Rattle.mask.specs.Bits.{bit_set}
use Rattle.settings.specs.Settings.{limits_ordered, record_fit}
use Rattle.settings.specs.Grade.{grade_of}
use Rattle.settings.specs.declared.Settings.{Settings}
use Rattle.possible.specs.Outcome.{outcome_at}
use Rattle.possible.specs.Bounds.{undismissed, grades_between, outcomes_between}
use Rattle.possible.proofs.Signed.{undismissed_is}
use Rattle.possible.proofs.Bits.{number, bits}

-- the order of the limits
pub record Ordered (s : Settings) : Type 0 where
  lolo-lo : s.lolo ≤ℤ s.lo
  lo-hi : s.lo ≤ℤ s.hi
  hi-hihi : s.hi ≤ℤ s.hihi

pub ordered : (s : Settings) → record_fit s ≡ true → Ordered s
unfolding limits_ordered
ordered s f = grind (arith, ints)

-- the grade of a net that is between two limits, beginning with LoLo's
module _ (s : Settings) (o : Ordered s) (n : ℤ) where
  grade-1 : n <ℤ s.lolo → grade_of s n ≡ 1
  unfolding grade_of
  grade-1 a = grind (arith, ints)

  grade-2 : s.lolo ≤ℤ n → n <ℤ s.lo → grade_of s n ≡ 2
  unfolding grade_of
  grade-2 a b = grind (arith, ints)

  grade-3 : s.lo ≤ℤ n → n ≤ℤ s.hi → grade_of s n ≡ 3
  unfolding grade_of
  grade-3 a b = grind (arith, ints)

  grade-4 : s.hi <ℤ n → n ≤ℤ s.hihi → grade_of s n ≡ 4
  unfolding grade_of
  grade-4 a b = grind (arith, ints)

  grade-5 : s.hihi <ℤ n → grade_of s n ≡ 5
  unfolding grade_of
  grade-5 a = grind (arith, ints)

module _ (s : Settings) (low high : ℤ) where
  abbrev first : ℤ
  first = undismissed low s.nearzero

  abbrev from : ℤ
  from = first -ℤ s.tare

  abbrev upto : ℤ
  upto = high -ℤ s.tare

  first_is : first ≡ int_max low (s.nearzero +ℤ pos 1)
  first_is = undismissed_is low s.nearzero

  -- a digit of the mask for each outcome
  abbrev digits : List Bool
  digits =
      false
      ∷ (le_z from upto && lt_z from s.lolo)
      ∷ (le_z from upto && lt_z from s.lo && le_z s.lolo upto && lt_z s.lolo s.lo)
      ∷ (le_z from upto && le_z from s.hi && le_z s.lo upto)
      ∷ (le_z from upto && le_z from s.hihi && lt_z s.hi upto && lt_z s.hi s.hihi)
      ∷ (le_z from upto && lt_z s.hihi upto)
      ∷ false
      ∷ false
      ∷ false
      ∷ le_z low s.nearzero
      ∷ []

  mask_is : outcomes_between s low high ≡ number digits
  unfolding outcomes_between grades_between
  mask_is = omega arith

  dismissed_at : (m : ℤ) → le_z m s.nearzero ≡ true → outcome_at s m ≡ 9
  unfolding outcome_at
  dismissed_at m h = rw h

  abbrev pub Found : ℕ → Type 0
  Found k = (m : ℤ) × (low ≤ℤ m) × (m ≤ℤ high) × (outcome_at s m ≡ k)

  module _ (o : Ordered s) (up : low ≤ℤ high) where
    -- each net from the one end to the other is that of a mean that is not dismissed
    found : (n : ℤ) (k : ℕ) → from ≤ℤ n → n ≤ℤ upto → grade_of s n ≡ k → Found k
    unfolding outcome_at
    found n k a b g =
        let f = first_is in
        let m = n +ℤ s.tare in
        let above : false ≡ le_z m s.nearzero = omega (arith, ints, clamps) in
        let net : m -ℤ s.tare ≡ n = omega (arith, ints) in
        (m, omega (arith, ints, clamps), omega (arith, ints), rw (sym above, net) g)

    -- a digit that is set is the outcome of a mean
    of_digit : (k : ℕ) → get_or digits k false ≡ true → Found k
    of_digit zero h = never h
    of_digit (suc zero) h = found from 1 (omega (arith, ints)) (grind (arith, ints)) (grade-1 s o _ (grind (arith, ints)))
    of_digit (suc (suc zero)) h =
        found (int_max from s.lolo) 2 (omega (arith, ints, clamps)) (grind (arith, ints)) (grade-2 s o _ (omega (arith, ints, clamps)) (grind (arith, ints)))
    of_digit (suc (suc (suc zero))) h =
        found (int_max from s.lo) 3 (omega (arith, ints, clamps)) (grind (arith, ints)) (grade-3 s o _ (omega (arith, ints, clamps)) (grind (arith, ints)))
    of_digit (suc (suc (suc (suc zero)))) h =
        found (int_max from (s.hi +ℤ pos 1)) 4 (omega (arith, ints, clamps)) (grind (arith, ints)) (grade-4 s o _ (omega (arith, ints, clamps)) (grind (arith, ints)))
    of_digit (suc (suc (suc (suc (suc zero))))) h = found upto 5 (grind (arith, ints)) (omega (arith, ints)) (grade-5 s o _ (grind (arith, ints)))
    of_digit (suc (suc (suc (suc (suc (suc zero)))))) h = never h
    of_digit (suc (suc (suc (suc (suc (suc (suc zero))))))) h = never h
    of_digit (suc (suc (suc (suc (suc (suc (suc (suc zero)))))))) h = never h
    of_digit (suc (suc (suc (suc (suc (suc (suc (suc (suc zero))))))))) h = (low, omega (arith, ints), up, dismissed_at low h)
    of_digit (suc (suc (suc (suc (suc (suc (suc (suc (suc (suc k)))))))))) h = never h

    -- the digit of a grade is set
    graded : (n : ℤ) → from ≤ℤ n → n ≤ℤ upto → get_or digits (grade_of s n) false ≡ true
    unfolding grade_of
    graded n a b =
        by_cases (lt_z n s.lolo) (λ h. rw h (grind (arith, ints)))
        (λ h.
        by_cases (lt_z n s.lo) (λ i. rw (h, i) (grind (arith, ints)))
        (λ i.
        by_cases (le_z n s.hi) (λ j. rw (h, i, j) (grind (arith, ints)))
        (λ j. by_cases (le_z n s.hihi) (λ q. rw (h, i, j, q) (grind (arith, ints))) (λ q. rw (h, i, j, q) (grind (arith, ints))))))

    -- the digit of each mean's outcome is set
    to_digit : (m : ℤ) → low ≤ℤ m → m ≤ℤ high → get_or digits (outcome_at s m) false ≡ true
    unfolding outcome_at
    to_digit m a b =
        let f = first_is in
        by_cases (le_z m s.nearzero)
        (λ h. rw h (sym (omega (arith, ints))))
        (λ h. rw h (graded (m -ℤ s.tare) (omega (arith, ints, clamps)) (omega (arith, ints))))

    pub of_bit : (k : ℕ) → bit_set (outcomes_between s low high) k ≡ true → Found k
    of_bit k h = of_digit k (sym (bits digits k) ∙ ap (λ (n : ℕ). bit_set n k) (sym mask_is) ∙ h)

    pub to_bit : (m : ℤ) → low ≤ℤ m → m ≤ℤ high → bit_set (outcomes_between s low high) (outcome_at s m) ≡ true
    to_bit m a b = ap (λ (n : ℕ). bit_set n (outcome_at s m)) mask_is ∙ bits digits (outcome_at s m) ∙ to_digit m a b
