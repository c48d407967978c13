-- 01, "Sample": the seven steps in order, where error 7 ends a tick, and bench mode.
use Rattle.std.specs.Prelude.{ℕ, Bool, true, ◌&&◌, not, ◌≡◌, eqb, pos}
use Rattle.laws.specs.Choice.{when◌then◌else◌}
use Rattle.verdict.specs.Verdict as verdict
use Rattle.weight.specs.Weight.{is_weight}
use Rattle.mask.specs.Bits.{lowest_off}
use Rattle.settings.specs.Settings.{record_fit}
use Rattle.settings.specs.declared.Settings.{Settings}
use Rattle.device.specs.Sensor.{settled}
use Rattle.sorters.specs.Sorters.{all_ticked}
use Rattle.detector.specs.Foreign.{eight_carried, foreign_ticked}
use Rattle.event.specs.Setup.{setup_fit, is_bench}
use Rattle.event.specs.declared.Sample.{Sample}
use Rattle.bench.specs.Bench.{ticked_on, detects, disarmed}
use Rattle.status.specs.Status.{stopped, paused, emergency, unsafe_error, ninth_error}
use Rattle.item.specs.Item.{in_hand, item_fit, new_item, weighed}
use Rattle.item.specs.declared.Item.TheVariants.{None}
use Rattle.item.specs.declared.Weighed.{Weighed}
use Rattle.item.specs.declared.Weighed.TheVariants.{Still, Mean}
use Rattle.line.specs.Line.{is_running, with_status, with_sensed, with_foreign, with_item, with_sorters, with_bench}
use Rattle.line.specs.Effect.{Effect, plain, halting}
use Rattle.line.specs.Verdict.{given, judged}
use Rattle.line.specs.declared.sample.Tick.{Tick}
use Rattle.line.specs.declared.line.Line.{Line}

-- 1. "Gross, safety and foreign level are kept as the last. The settled sensor level .., running or not"
unfoldable pub step1 : Line → Sample → Line
step1 l s =
    with_sensed l (settled l.sensor l.setup.tc s.sensor)
    (record { gross = s.gross; safety = s.safety; foreign = s.foreign })

-- the settled level "made the chosen edge in step 1": edge 1 is off to on, edge 2 on to off
unfoldable pub edge_made : ℕ → ℕ → ℕ → Bool
edge_made edge before after =
    when eqb edge 1 then eqb before 0 && eqb after 1 else eqb before 1 && eqb after 0

-- "A foreign change 0 to 1 against the sample before"
unfoldable pub foreign_rises : Line → Sample → Bool
foreign_rises l s = eqb l.last.foreign 0 && eqb s.foreign 1

-- what a running tick is given: the active code's record, the gross, and what the sample changed
abbrev pub tick_of : Line → Settings → Sample → Tick
tick_of l a s =
    record {
      active = a;
      gross = s.gross;
      rises = foreign_rises l s;
      made = edge_made l.setup.edge l.sensor.level (step1 l s).sensor.level;
    }

-- what its steps need: the parts of a fit line that they read, a fit record and a weight
pub record Ready (l : Line) (t : Tick) : Type 0 where
  pub setup : setup_fit l.setup ≡ true
  pub item : item_fit l.item l.setup ≡ true
  pub active : record_fit t.active ≡ true
  pub gross : is_weight t.gross ≡ true

-- 2. "Emergency 1: status 3. Emergency 0 in status 3: stopped."
unfoldable pub step2 : Line → ℕ → Effect
step2 l level =
    when eqb level 1 then halting l emergency
    else (when eqb l.status emergency then halting l stopped else plain l)

-- 3. "If a bit set in need is 0 in safety: paused, error 1"
unfoldable pub step3 : Line → Line
step3 l = when eqb (lowest_off l.setup.need l.last.safety) 0 then l else with_status l paused unsafe_error

-- 02, T-02: in mode 4 "a running tick with gross ≤ nearzero" arms, and its gross is one of "the last 10"
unfoldable pub on_bench : Line → Tick → Line
on_bench l t = with_bench l (when is_bench l.setup then ticked_on l.bench t.gross t.active.nearzero else l.bench)

-- 4. the on-times and waits of the sorters
unfoldable pub step4 : Line → Line
step4 l = with_sorters l (all_ticked l.sorters l.setup.sorters)

-- 5. 02, T-04: "Step 5 lets all delays fall and counts those that ended."; then a change 0 to 1 is one signal more
unfoldable pub step5 : Line → Tick → Line
step5 l t = with_foreign l (foreign_ticked l.foreign t.rises l.setup.tf)

unfoldable pub after_weighing : Line → Settings → Weighed → Effect
after_weighing l a (Still i) = plain (with_item l i)
after_weighing l a (Mean m) = judged (with_item l None) a m

-- 6. the item in hand is weighed, and judged on its last tick
unfoldable pub step6 : Line → Tick → Effect
step6 l t = after_weighing l t.active (weighed l.item l.setup t.gross)

-- the effect with a box detected: a new item in hand on this line
unfoldable pub box_taken : Effect → Line → Effect
box_taken e l = record e { line = with_item l (new_item l.setup); detected = 1 }

-- "detected. With an item in hand, both become one two-on verdict and nothing is in hand."
unfoldable pub detecting : Effect → Effect
detecting e = when in_hand e.line.item then given (with_item e.line None) 1 verdict.two_on (pos 0) else box_taken e e.line

-- "and the settled level made the chosen edge in step 1"
unfoldable pub by_sensor : Effect → Tick → Effect
by_sensor e t = when t.made then detecting e else e

-- T-02: "an armed line still running and with nothing in hand detects a box when .."; "Detection disarms."
unfoldable pub by_hand : Effect → Tick → Effect
by_hand e t =
    when not (in_hand e.line.item) && detects e.line.bench t.gross t.active.nearzero
    then box_taken e (with_bench e.line (disarmed e.line.bench)) else e

-- 7. "If still running"; T-02: "Mode 4 .. detects nothing by the sensor"
unfoldable pub step7 : Effect → Tick → Effect
step7 e t =
    when is_running e.line then (when is_bench e.line.setup then by_hand e t else by_sensor e t) else e

-- 02, T-04: "A change 0 to 1 with eight carried, ended ones included"; that delays fall alters no number of signals
unfoldable pub ninth_signal : Line → Tick → Bool
ninth_signal l t = t.rises && eight_carried l.foreign

-- it "pauses the line at once with error 7, after step 5 and before step 6"; else come steps 6 and 7
unfoldable pub unless_ninth : Bool → Line → Tick → Effect
unless_ninth ninth l t = when ninth then plain (with_status l paused ninth_error) else step7 (step6 l t) t

-- "Else it is a running tick": steps 4 to 7
unfoldable pub running_tick : Line → Tick → Effect
running_tick l t = unless_ninth (ninth_signal l t) (step5 (step4 (on_bench l t)) t) t

-- step 3, and a running tick if it did not end the sample
unfoldable pub guarded : Line → Tick → Effect
guarded l t = when is_running l then running_tick l t else plain l

-- "If not running, the sample ends."
unfoldable pub from_step3 : Effect → Tick → Effect
from_step3 e t = when is_running e.line then guarded (step3 e.line) t else e

unfoldable pub sampled : Line → Settings → Sample → Effect
sampled l a s =
    from_step3 (step2 (step1 l s) s.emergency) (tick_of l a s)
