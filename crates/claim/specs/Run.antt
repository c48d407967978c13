-- A list of events from a fresh line and fresh memory: each event finds the line and the memories as the one before left them.
use Rattle.std.specs.Prelude.{List, [], ◌∷◌}
use Rattle.event.specs.declared.Event.{Event}
use Rattle.line.specs.State.{State, fresh_state}
use Rattle.line.specs.Step.{After, step_on}
use Rattle.book.specs.Book.{Turn}

-- the line and both memories, and what has been said; the last turn stands first
pub record World : Type 0 where
  pub state : State
  pub history : List Turn

abbrev pub fresh_world : World
fresh_world = record { state = fresh_state; history = [] }

abbrev pub answer : World → Event → After
answer w e = step_on w.state e

abbrev pub after : World → Event → World
after w e =
    record {
      state = (answer w e).state;
      history = record { event = e; reply = (answer w e).reply } ∷ w.history;
    }

unfoldable pub run_from : World → List Event → World
run_from w [] = w
run_from w (e ∷ es) = run_from (after w e) es

unfoldable pub run : List Event → World
run es = run_from fresh_world es
