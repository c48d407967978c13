-- The boxes of one event: what was in hand and what was detected is judged, two-on, dismissed, abandoned or in hand after it. Assumes nothing.
use mathlib.Core.Path.{◌≡◌, refl, sym, ◌∙◌}
use mathlib.Core.Bool.{Bool, true, false, ◌&&◌, not}
use Prim.Native.Nat.{ℕ, ◌+◌, ◌*◌}
use native.Mathlib.Omega.{arith}
use lib.Dec.{eqb}
use borrow.Author.Tests.{eqb-true}
use Rattle.laws.specs.Choice.{when◌then◌else◌, bit}
use Rattle.laws.proofs.Tests.{by_cases, never}
use Rattle.line.proofs.Moves.{Moves, still, judged, judged-next, dismissed, dismissed-next, two-on, abandoned, detected}
use Rattle.book.specs.Boxes.{is_judged}

-- a number of which a test says other than of k is not k
pub apart : (p : ℕ → Bool) (o k : ℕ) → p k ≡ true → p o ≡ false → eqb o k ≡ false
apart p o k t f = by_cases (eqb o k) (λ e. never (sym f ∙ rw (eqb-true o k e) t)) (λ e. e)

abbrev is : ℕ → ℕ → ℕ
is o k = bit (eqb o k)

-- a and z: in hand before and after; d and o: the reply's detected and outcome
pub record Level (a d o z : ℕ) : Type 0 where
  pub flow : a + d ≡ is_judged o + 2 * is o 7 + is o 9 + is o 10 + z
  pub last : z ≡ (when eqb d 0 && eqb o 0 then a else bit (eqb d 1 && not (eqb o 7)))

pub level : {a d o z : ℕ} → Moves a d o z → Level a d o z
level (still a) = record { flow = omega arith; last = refl }
level (judged v j) = record { flow = rw (j.one, j.not7, j.not9, j.not10); last = rw j.not0 }
level (judged-next v j) = record { flow = rw (j.one, j.not7, j.not9, j.not10); last = rw j.not7 }
level dismissed = record { flow = refl; last = refl }
level dismissed-next = record { flow = refl; last = refl }
level two-on = record { flow = refl; last = refl }
level abandoned = record { flow = refl; last = refl }
level detected = record { flow = refl; last = refl }
