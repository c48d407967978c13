-- 01, "Line and memory" and "Events": the line's status and error, and when the conveyor runs.
use Rattle.std.specs.Prelude.{ℕ, Bool, ◌&&◌, ◌||◌, not, eqb}
use Rattle.laws.specs.Choice.{when◌then◌else◌}
use Rattle.verdict.specs.Verdict.{foreign, two_on, crash}
use Rattle.event.specs.Setup.{bench_mode}
use Rattle.event.specs.Reply.{no_error}

-- "Status: 0 stopped, 1 running, 2 paused, 3 emergency."
abbrev pub stopped : ℕ
stopped = 0

abbrev pub running : ℕ
running = 1

abbrev pub paused : ℕ
paused = 2

abbrev pub emergency : ℕ
emergency = 3

-- "running and busy gives paused, error 0", and "0 a grade"
abbrev pub plain_error : ℕ
plain_error = 0

-- "If a bit set in need is 0 in safety: paused, error 1"
abbrev pub unsafe_error : ℕ
unsafe_error = 1

-- "error 2 for two-on, 5 foreign, 6 crash, 0 a grade"
abbrev pub two_on_error : ℕ
two_on_error = 2

abbrev pub foreign_error : ℕ
foreign_error = 5

abbrev pub crash_error : ℕ
crash_error = 6

-- 02, T-04: "A change 0 to 1 with eight carried, ended ones included, pauses the line at once with error 7"
abbrev pub ninth_error : ℕ
ninth_error = 7

-- "error known here": none, 0, 1, those of `error_for`, and 7
unfoldable pub error_known : ℕ → Bool
error_known e =
    eqb e no_error || eqb e plain_error || eqb e unsafe_error || eqb e two_on_error || eqb e foreign_error || eqb e crash_error || eqb e ninth_error

-- of a line that this verdict stops
unfoldable pub error_for : ℕ → ℕ
error_for v =
    when eqb v two_on then two_on_error
    else (when eqb v foreign then foreign_error
    else (when eqb v crash then crash_error
    else plain_error))

-- "Conveyor is 1 when running, in mode 2 only with nothing in hand."; 02, T-02: "Mode 4 keeps the conveyor at 0"
unfoldable pub conveyor_runs : ℕ → ℕ → Bool → Bool
conveyor_runs status mode in_hand = eqb status running && not (eqb mode bench_mode) && not (eqb mode 2 && in_hand)
