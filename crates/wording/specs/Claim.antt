-- Demand 3 for text: behind every input the line and both memories are those that the events of its lines give, from a fresh line and memory, and of these the claim holds.
use Rattle.std.specs.Prelude.{ℕ, ◌≡◌, List, [], ◌∷◌, ◌++◌, Option, Some, None}
use Rattle.event.specs.declared.Event.{Event}
use Rattle.line.specs.State.{fresh_state}
use Rattle.claim.specs.Run.{run}
use Rattle.claim.specs.Claim.{Stands}
use Rattle.claim.specs.Waiting.{AllServed}
use Rattle.text.specs.Read.{read_line}
use Rattle.text.specs.declared.Read.{Read}
use Rattle.text.specs.declared.Read.TheVariants as read
use Rattle.controller.specs.Input.{lines_of, state_behind}

-- the event that a line of text says, if it says one
abbrev pub event_in : Option Read → List Event
event_in (Some (read.Event e)) = e ∷ []
event_in (Some (read.Report code)) = []
event_in None = []

unfoldable pub events_of : List (List ℕ) → List Event
events_of [] = []
events_of (l ∷ ls) = event_in (read_line l) ++ events_of ls

pub record TextClaim : Type 0 where
  pub held : (input : List ℕ) → state_behind fresh_state (lines_of input) ≡ (run (events_of (lines_of input))).state
  pub stands : (input : List ℕ) → Stands (run (events_of (lines_of input)))
  -- 02, T-14: no box is left waiting
  pub served : (input : List ℕ) → AllServed (events_of (lines_of input))
