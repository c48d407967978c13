-- 01, "Text lines": what a line of text says goes through the controller, and is answered.
use Rattle.std.specs.Prelude.{ℕ, ◌+◌, List, length, Option, None, Some}
use Rattle.laws.specs.Choice.{when◌then◌else◌}
use Rattle.sheet.specs.Report.{report_on}
use Rattle.line.specs.State.{State}
use Rattle.line.specs.Step.{step_on}
use Rattle.print.specs.Reply.{reply_text}
use Rattle.text.specs.declared.Read.{Read}
use Rattle.text.specs.declared.Read.TheVariants as read
use Rattle.controller.specs.Answer.{report_answer, refused_answer, no_room, put_at}

unfoldable pub answer_to : State → Option Read → List ℕ
answer_to s (Some (read.Event e)) = reply_text (step_on s e).reply
answer_to s (Some (read.Report code)) = report_answer code (report_on s.settings s.tallies code)
answer_to s None = refused_answer (length s.settings) s.tallies

-- only an event changes the line, the records and the tallies
unfoldable pub state_after : State → Option Read → State
state_after s (Some (read.Event e)) = (step_on s e).state
state_after s (Some (read.Report code)) = s
state_after s None = s

-- what a call of `serve` leaves, the line and both memories and the output, and where the answers end then
pub record Serving : Type 0 where
  pub state : State
  pub out : List ℕ
  pub at : Option ℕ

-- the answer stands behind the first bytes of the output; with too little room there everything stays
unfoldable pub serving : State → Option Read → List ℕ → ℕ → Serving
serving s said out at =
    when no_room (length out) at then record { state = s; out = out; at = None }
    else record {
      state = state_after s said;
      out = put_at at (answer_to s said) out;
      at = Some (at + length (answer_to s said));
    }
