-- 01, "A line is fit if": every call tests it, and no event of a list from a fresh line ever finds it unfit.
use Rattle.std.specs.Prelude.{Bool, ◌&&◌, ◌||◌, not, eqb, leb}
use Rattle.device.specs.Sensor.{sensor_fit}
use Rattle.sorters.specs.Sorters.{all_fit}
use Rattle.detector.specs.Foreign.{foreign_fit}
use Rattle.event.specs.Setup.{setup_fit}
use Rattle.event.specs.Sample.{last_fit}
use Rattle.settings.specs.Settings.{is_code}
use Rattle.item.specs.Item.{item_fit}
use Rattle.undo.specs.Undo.{undo_fit}
use Rattle.bench.specs.Bench.{bench_fit}
use Rattle.status.specs.Status.{stopped, paused, emergency, error_known}
use Rattle.line.specs.Line.{busy}
use Rattle.event.specs.Reply.{no_error}
use Rattle.line.specs.declared.line.Line.{Line}

-- "error none unless paused, and in status 0 or 3 nothing in hand, queued or on"
unfoldable pub status_fit : Line → Bool
status_fit l =
    leb l.status 3 && error_known l.error
    && (eqb l.status paused || eqb l.error no_error)
    && not ((eqb l.status stopped || eqb l.status emergency) && busy l)

unfoldable pub line_fit : Line → Bool
line_fit l =
    is_code l.code && setup_fit l.setup && last_fit l.last && sensor_fit l.sensor
    && status_fit l && all_fit l.sorters && foreign_fit l.foreign
    && item_fit l.item l.setup && undo_fit l.undo && bench_fit l.bench
