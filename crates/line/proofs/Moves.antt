-- What one event does to the box in hand and to one that comes. Assumes nothing.
use mathlib.Core.Path.{◌≡◌}
use mathlib.Core.Bool.{true, false, ◌||◌}
use Prim.Native.Nat.{ℕ}
use lib.Dec.{eqb}
use lib.IntN.{ℤ}
use lib.Signed.{lt_z, le_z}
use Rattle.laws.specs.Choice.{within}
use Rattle.laws.proofs.Tests.{if_ind}
use Rattle.settings.specs.Grade.{grade_of}
use Rattle.settings.specs.declared.Settings.{Settings}
use Rattle.sorters.specs.Sorters.{any_blocks}
use Rattle.line.specs.Verdict.{or_crash}
use Rattle.line.specs.declared.line.Line.{Line}

-- the numbers of verdicts that judge one box
pub record Judged (v : ℕ) : Type 0 where
  pub one : within 1 6 v || eqb v 8 ≡ true
  pub not7 : eqb v 7 ≡ false
  pub not9 : eqb v 9 ≡ false
  pub not10 : eqb v 10 ≡ false
  pub not0 : eqb v 0 ≡ false

-- in hand before, detected, outcome, in hand after
pub data Moves : ℕ → ℕ → ℕ → ℕ → Type 0 where
  still : (a : ℕ) → Moves a 0 0 a
  judged : (v : ℕ) → Judged v → Moves 1 0 v 0
  judged-next : (v : ℕ) → Judged v → Moves 1 1 v 1
  dismissed : Moves 1 0 9 0
  dismissed-next : Moves 1 1 9 1
  two-on : Moves 1 1 7 0
  abandoned : Moves 1 0 10 0
  detected : Moves 0 1 0 1

-- the grades, foreign and crash judge one box
pub grade_judged : (a : Settings) (net : ℤ) → Judged (grade_of a net)
unfolding grade_of
grade_judged a net =
    if_ind Judged (lt_z net a.lolo) _ _ (λ _. assumption)
    (λ _. if_ind Judged (lt_z net a.lo) _ _ (λ _. assumption)
    (λ _. if_ind Judged (le_z net a.hi) _ _ (λ _. assumption)
    (λ _. if_ind Judged (le_z net a.hihi) 4 5 (λ _. assumption) (λ _. assumption))))

pub foreign-judged : Judged 6
foreign-judged = assumption

pub crash-judged : (l : Line) (v : ℕ) → Judged v → Judged (or_crash l v)
unfolding or_crash
crash-judged l v j = if_ind Judged (any_blocks v l.sorters l.setup.sorters) 8 v (λ _. assumption) (λ _. j)
