-- 01, step 6 and the paragraphs "Grade" and "A verdict with its sort bit": the verdict due and what it does.
use Rattle.std.specs.Prelude.{ℕ, ℤ, pos, ◌-ℤ◌}
use Rattle.std.specs.Int.Signed.{le_z}
use Rattle.laws.specs.Choice.{when◌then◌else◌}
use Rattle.mask.specs.Bits.{marked}
use Rattle.settings.specs.Grade.{grade_of}
use Rattle.settings.specs.declared.Settings.{Settings}
use Rattle.sorters.specs.Sorters.{all_entered, any_blocks}
use Rattle.detector.specs.Foreign.{due, oldest_used}
use Rattle.verdict.specs.Verdict as verdict
use Rattle.verdict.specs.Verdict.{is_grade}
use Rattle.status.specs.Status.{error_for, paused}
use Rattle.line.specs.Line.{with_status, with_foreign, with_sorters}
use Rattle.line.specs.Effect.{Effect, dismissed}
use Rattle.line.specs.declared.line.Line.{Line}

-- 02, T-01: "A verdict enters the queue of every sorter whose mask has its bit."; 01: "with wait ts if fewer than 8 wait"
unfoldable pub sorted_for : Line → ℕ → Line
sorted_for l v = with_sorters l (all_entered v l.sorters l.setup.sorters)

-- "With its stop bit the line pauses"
unfoldable pub stopped_for : Line → ℕ → Line
stopped_for l v = when marked l.setup.stop v then with_status l paused (error_for v) else l

-- a verdict given; "net is 0 unless 1 to 5"
unfoldable pub given : Line → ℕ → ℕ → ℤ → Effect
given l detected v net =
    record {
      line = stopped_for (sorted_for l v) v;
      detected = detected;
      outcome = v;
      net = when is_grade v then net else pos 0;
    }

-- 02, T-01: "A due foreign or grade verdict becomes crash if one of those queues holds 8, and then it enters none": crash has bit 0,
-- which no sort mask has
unfoldable pub or_crash : Line → ℕ → ℕ
or_crash l v = when any_blocks v l.sorters l.setup.sorters then verdict.crash else v

-- foreign if a signal has ended, else the grade. 02, T-04: "A foreign verdict due in step 6 uses up one ended signal, the oldest, also where it becomes crash."
unfoldable pub verdict_of : Line → Settings → ℤ → Effect
verdict_of l a net =
    when due l.foreign then given (with_foreign l (oldest_used l.foreign)) 0 (or_crash l verdict.foreign) net
    else given l 0 (or_crash l (grade_of a net)) net

-- "If m ≤ nearzero: dismissed. Else net = m - tare"
unfoldable pub judged : Line → Settings → ℤ → Effect
judged l a m = when le_z m a.nearzero then dismissed l else verdict_of l a (m -ℤ a.tare)
