-- What an event does to the line and to a box, before a verdict is tallied; and the reply's fields.
use Rattle.std.specs.Prelude.{ℕ, ℤ, pos, Ok}
use Rattle.std.specs.Int.{from_bool}
use Rattle.laws.specs.Choice.{when◌then◌else◌}
use Rattle.sorters.specs.Sorters.{all_off}
use Rattle.item.specs.Item.{in_hand}
use Rattle.line.specs.Line.{busy, conveyor, sorter_field, with_status, with_sorters, with_item}
use Rattle.event.specs.Reply.{Reply, no_error}
use Rattle.verdict.specs.Verdict as verdict
use Rattle.item.specs.declared.Item.TheVariants.{None}
use Rattle.line.specs.declared.line.Line.{Line}
use Rattle.line.specs.declared.effect.Boxes.{Boxes}

-- the line after an event; 1 if the event detected a box, else 0; the outcome of a box, 0 if none; its net
pub record Effect : Type 0 where
  pub line : Line
  pub detected : ℕ
  pub outcome : ℕ
  pub net : ℤ

-- the line after an event with what the event did to boxes
abbrev pub effect_of : Line → Boxes → Effect
effect_of l b = record { line = l; detected = b.detected; outcome = b.outcome; net = b.net }

-- an effect on the line alone
abbrev pub plain : Line → Effect
plain l = record { line = l; detected = 0; outcome = 0; net = pos 0 }

-- an outcome that is no verdict
abbrev pub dismissed : Line → Effect
dismissed l = record (plain l) { outcome = verdict.dismissed }

-- "Entering status 0 or 3 abandons an item in hand, empties the queue, puts the sorter off and the error to none. A foreign signal is kept."
unfoldable pub halted : Line → ℕ → Line
halted l s = with_item (with_sorters (with_status l s no_error) all_off) None

unfoldable pub halting : Line → ℕ → Effect
halting l s = record (plain (halted l s)) { outcome = when in_hand l.item then verdict.abandoned else 0 }

-- "Status, busy, conveyor, sorter and error are those after the event. Detected and tallied are 1 if this event did so."
unfoldable pub replied : Effect → ℕ → Reply
replied e tallied =
    Ok
    (record {
      status = e.line.status;
      busy = from_bool (busy e.line);
      conveyor = from_bool (conveyor e.line);
      sorter = sorter_field e.line;
      detected = e.detected;
      outcome = e.outcome;
      net = e.net;
      tallied = tallied;
      error = e.line.error;
    })
