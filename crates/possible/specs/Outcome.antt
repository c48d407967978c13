-- 01, step 6, of a list of samples, "with no foreign signal and an empty queue": a grade or dismissed.
-- That the line's own step 6 gives this outcome when it is fed the samples one by one is the theorem of the crate `stepsix`.
use Rattle.std.specs.Prelude.{List, ℕ, ℤ, ◌-ℤ◌, length}
use Rattle.std.specs.Int.Signed.{le_z}
use Rattle.laws.specs.Choice.{when◌then◌else◌}
use Rattle.lists.specs.Sums.{sum_of}
use Rattle.weight.specs.Mean.{rounded}
use Rattle.settings.specs.Grade.{grade_of}
use Rattle.verdict.specs.Verdict.{dismissed}
use Rattle.settings.specs.declared.Settings.{Settings}

-- "If m ≤ nearzero: dismissed. Else net = m - tare and the verdict due is .. the grade."
unfoldable pub outcome_at : Settings → ℤ → ℕ
outcome_at s m = when le_z m s.nearzero then dismissed else grade_of s (m -ℤ s.tare)

-- "m = sum / ta to the nearest, halves away from zero"
abbrev pub outcome_of : Settings → List ℤ → ℕ
outcome_of s xs = outcome_at s (rounded (sum_of xs) (length xs))
