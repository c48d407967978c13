-- Events run by the code, and the fold that demand 3 speaks of.
use Rattle.std.specs.Prelude.{List, [], ◌∷◌, ◌++◌, ◌≡◌, ℤ, replicate, ℕ}
use Rattle.settings.specs.Settings.{blank, settings_length}
use Rattle.event.specs.declared.Event.{Event}
use Rattle.tallies.specs.Memory.{zeros}
use Rattle.line.specs.Line.{fresh_line}
use Rattle.line.specs.State.{State, state}
use Rattle.line.specs.Step.{step_on}
use Rattle.claim.specs.Run.{World, answer, run_from, run}
use Rattle.replay.specs.declared.Plant.{Plant}
use Rattle.replay.specs.declared.Turned.{Turned}

-- "from a fresh line and memory"
abbrev pub fresh_plant : Plant
fresh_plant = record { line = fresh_line; settings = replicate settings_length blank }

-- a plant and the tallies that are lent to it
abbrev pub state_of : Plant → List ℤ → State
state_of p ts = state p.line p.settings ts

abbrev pub plant_in : State → Plant
plant_in s = record { line = s.line; settings = s.settings }

-- one event on a plant and the lent tallies
abbrev pub turned_by : State → Event → Turned
turned_by s e = record { plant = plant_in (step_on s e).state; reply = (step_on s e).reply }

-- Where plant and tallies are those after a list of events, they are after the turn those after the list and this event, and so is the reply:
-- what the claim says of every list reaches each list that a caller runs, one event after another.
abbrev pub Follows : State → Event → Turned → List ℤ → Type 0
Follows s e r ts =
    (events : List Event) → s ≡ (run events).state
    → (state_of r.plant ts ≡ (run (events ++ e ∷ [])).state) × (r.reply ≡ (answer (run events) e).reply)

-- events run from a fresh line, fresh settings and as many zeros as the memory is long; with the right length this is `run`
abbrev pub replayed : ℕ → List Event → World
replayed size events = run_from (record { state = state_of fresh_plant (zeros size); history = [] }) events
