-- 01, "Events": run, stop and emergency, as accepted.
use Rattle.std.specs.Prelude.{◌&&◌, eqb}
use Rattle.laws.specs.Choice.{when◌then◌else◌}
use Rattle.status.specs.Status.{stopped, running, paused, emergency, plain_error}
use Rattle.line.specs.Line.{is_running, busy, with_status, with_bench}
use Rattle.bench.specs.Bench.{begun}
use Rattle.event.specs.Reply.{no_error}
use Rattle.line.specs.Effect.{Effect, plain, halting}
use Rattle.line.specs.declared.line.Line.{Line}

-- "Run from stopped or paused sets running, error none"; 02, T-02: "A run accepted from stopped arms it"
unfoldable pub ran : Line → Effect
ran l = plain (with_bench (with_status l running no_error) (begun l.bench (eqb l.status stopped)))

-- "Stop: running and busy gives paused, error 0; running and not busy, or paused, gives stopped; stopped stays."
unfoldable pub stopping : Line → Effect
stopping l =
    when is_running l && busy l then plain (with_status l paused plain_error)
    else (when eqb l.status stopped then plain l else halting l stopped)

-- "Emergency: accepted in any status, gives status 3."
unfoldable pub alarmed : Line → Effect
alarmed l = halting l emergency
