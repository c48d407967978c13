-- 01, "Line and memory": statuses, busy, the fresh line; and the line with one part anew.
use Rattle.std.specs.Prelude.{ℕ, Bool, ◌||◌, List, eqb, pos, Option, None}
use Rattle.laws.specs.Choice.{when◌then◌else◌}
use Rattle.status.specs.Status.{stopped, running, conveyor_runs}
use Rattle.bench.specs.Bench.{fresh_bench}
use Rattle.bench.specs.declared.Bench.{Bench}
use Rattle.sorters.specs.Sorters.{any_sorting, on_bits, all_off}
use Rattle.detector.specs.Foreign.{no_signal}
use Rattle.device.specs.declared.sensor.Sensor.{Sensor}
use Rattle.device.specs.declared.sorter.Sorter.{Sorter}
use Rattle.detector.specs.declared.Foreign.{Foreign}
use Rattle.event.specs.Reply.{no_error}
use Rattle.event.specs.Setup.{fresh_setup}
use Rattle.event.specs.declared.Setup.{Setup}
use Rattle.item.specs.Item.{in_hand}
use Rattle.item.specs.declared.Item.{Item}
use Rattle.item.specs.declared.Item.TheVariants as item
use Rattle.part.specs.declared.part.Part.{Part}
use Rattle.event.specs.declared.last.Last.{Last}
use Rattle.line.specs.declared.line.Line.{Line}

abbrev pub is_running : Line → Bool
is_running l = eqb l.status running

-- "Busy: an item is in hand, the sorter queue isn't empty, or the on-time is above 0", with T-01's six sorters of one of them
unfoldable pub busy : Line → Bool
busy l = in_hand l.item || any_sorting l.sorters

unfoldable pub conveyor : Line → Bool
conveyor l = conveyor_runs l.status l.setup.mode (in_hand l.item)

-- "Sorter is 1 when running with on-time above 0."; 02, T-01: it "is 0 to 63, bit k-1 for sorter k"
unfoldable pub sorter_field : Line → ℕ
sorter_field l = when is_running l then on_bits l.sorters else 0

-- "A fresh line is stopped, on code 0, with sensor and foreign levels 0, last gross 0, no foreign signal, error none, nothing to cancel";
-- "the last sample's safety (255 if fresh)"
unfoldable pub fresh_line : Line
fresh_line =
    record {
      status = stopped;
      error = no_error;
      code = 0;
      setup = fresh_setup;
      sensor = record { level = 0; run = 0 };
      last = record { gross = pos 0; safety = 255; foreign = 0 };
      foreign = no_signal;
      item = item.None;
      sorters = all_off;
      undo = None;
      bench = fresh_bench;
    }

-- ---- the line with a part anew

abbrev pub with_status : Line → ℕ → ℕ → Line
with_status l s e = record l { status = s; error = e }

abbrev pub with_code : Line → ℕ → Line
with_code l c = record l { code = c }

abbrev pub with_setup : Line → Setup → Line
with_setup l s = record l { setup = s }

abbrev pub with_sensed : Line → Sensor → Last → Line
with_sensed l s k = record l { sensor = s; last = k }

abbrev pub with_foreign : Line → Foreign → Line
with_foreign l f = record l { foreign = f }

abbrev pub with_item : Line → Item → Line
with_item l i = record l { item = i }

abbrev pub with_sorters : Line → List Sorter → Line
with_sorters l ss = record l { sorters = ss }

abbrev pub with_undo : Line → Option Part → Line
with_undo l u = record l { undo = u }

abbrev pub with_bench : Line → Bench → Line
with_bench l b = record l { bench = b }
