-- One verdict more is one more in just one of the eight counts. Assumes nothing.
use mathlib.Core.Path.{◌≡◌, refl, sym, subst}
use mathlib.Core.Bool.{true}
use Prim.Native.Nat.{ℕ, zero, suc, ◌+◌}
use native.Mathlib.Omega.{arith}
use lib.Dec.{T, leb}
use borrow.Author.Tests.{leb-true, le-leb, lt-leb, ne_eqb}
use Rattle.laws.specs.Choice.{when◌then◌else◌}
use Rattle.laws.proofs.Tests.{both}
use Rattle.verdict.specs.Verdict.{is_verdict, is_grade}
use Rattle.tally.specs.Tally.{one}

-- a verdict from 1 to 8 is one of the eight
pub ones : (v : ℕ) → is_verdict v ≡ true → one v 1 + one v 2 + one v 3 + one v 4 + one v 5 + one v 6 + one v 7 + one v 8 ≡ 1
ones zero h = absurd (subst T (sym h) tt)
ones (suc zero) h = refl
ones (suc (suc zero)) h = refl
ones (suc (suc (suc zero))) h = refl
ones (suc (suc (suc (suc zero)))) h = refl
ones (suc (suc (suc (suc (suc zero))))) h = refl
ones (suc (suc (suc (suc (suc (suc zero)))))) h = refl
ones (suc (suc (suc (suc (suc (suc (suc zero))))))) h = refl
ones (suc (suc (suc (suc (suc (suc (suc (suc zero)))))))) h = refl
ones (suc (suc (suc (suc (suc (suc (suc (suc (suc k))))))))) h =
    let v = suc (suc (suc (suc (suc (suc (suc (suc (suc k)))))))) in
    absurd (omega (arith, leb-true v 8 (both (leb 1 v) (leb v 8) h).1))

-- and a grade one of the first five
pub grade_ones : (v : ℕ) → one v 1 + one v 2 + one v 3 + one v 4 + one v 5 ≡ (when is_grade v then 1 else 0)
grade_ones zero = refl
grade_ones (suc zero) = refl
grade_ones (suc (suc zero)) = refl
grade_ones (suc (suc (suc zero))) = refl
grade_ones (suc (suc (suc (suc zero)))) = refl
grade_ones (suc (suc (suc (suc (suc zero))))) = refl
grade_ones (suc (suc (suc (suc (suc (suc k)))))) =
    let v = suc (suc (suc (suc (suc (suc k))))) in
    rw (
      ne_eqb v 1 (λ h. omega arith),
      ne_eqb v 2 (λ h. omega arith),
      ne_eqb v 3 (λ h. omega arith),
      ne_eqb v 4 (λ h. omega arith),
      ne_eqb v 5 (λ h. omega arith),
      le-leb 1 v (omega arith),
      lt-leb v 5 (omega arith),
    )
