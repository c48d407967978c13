-- 01, "Grade: LoLo if net < lolo; Lo if net < lo; OK if net ≤ hi; Hi if net ≤ hihi; else HiHi", as verdicts 1 to 5.
use Rattle.std.specs.Prelude.{ℕ, ℤ}
use Rattle.std.specs.Int.Signed.{lt_z, le_z}
use Rattle.laws.specs.Choice.{when◌then◌else◌}
use Rattle.verdict.specs.Verdict as verdict
use Rattle.settings.specs.declared.Settings.{Settings}

unfoldable pub grade_of : Settings → ℤ → ℕ
grade_of s net =
    when lt_z net s.lolo then verdict.lolo
    else (when lt_z net s.lo then verdict.lo
    else (when le_z net s.hi then verdict.ok
    else (when le_z net s.hihi then verdict.hi
    else verdict.hihi)))
