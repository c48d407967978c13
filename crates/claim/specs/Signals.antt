-- 02, T-04 "Detector further up the belt": what becomes of the foreign signals. What an event takes and uses up is told from
-- the line before it, the event and its reply.
use Rattle.std.specs.Prelude.{ℕ, ◌+◌, ◌≤◌, ◌≡◌, Bool, true, false, ◌&&◌, ◌||◌, not, List, [], ◌∷◌, eqb}
use Rattle.verdict.specs.Verdict as verdict
use Rattle.laws.specs.Choice.{bit}
use Rattle.queue.specs.Queue.{places}
use Rattle.detector.specs.Foreign.{carried, eight_carried, due, foreign_ticked}
use Rattle.event.specs.Kind.{of_sample}
use Rattle.event.specs.declared.Event.{Event}
use Rattle.event.specs.Reply.{Reply}
use Rattle.line.specs.Fit.{line_fit}
use Rattle.line.specs.Sample.{foreign_rises}
use Rattle.line.specs.State.{State}
use Rattle.line.specs.Step.{step_on}
use Rattle.line.specs.declared.line.Line.{Line}
use Rattle.book.specs.Boxes.{outcome_of}
use Rattle.claim.specs.Run.{World, fresh_world, answer, after, run}
use Rattle.claim.specs.RunningTick.{is_running_tick}

-- taken: a running tick's change 0 to 1 with fewer than eight carried
unfoldable pub taken_by : Line → Event → Reply → ℕ
taken_by l e r = bit (is_running_tick l e r && of_sample (foreign_rises l) false e && not (eight_carried l.foreign))

-- an ended signal after step 5
unfoldable pub ended_at : Line → Event → Bool
ended_at l e = of_sample (λ s. due (foreign_ticked l.foreign (foreign_rises l s) l.setup.tf)) false e

-- used up by "A foreign verdict .., also where it becomes crash": outcome 6, or 8 with an ended signal after step 5
unfoldable pub used_up_by : Line → Event → Reply → ℕ
used_up_by l e r = bit (eqb (outcome_of r) verdict.foreign || eqb (outcome_of r) verdict.crash && ended_at l e)

-- such a number of each event of a list, added up
unfoldable pub added_up : (Line → Event → Reply → ℕ) → World → List Event → ℕ
added_up f w [] = 0
added_up f w (e ∷ es) = f w.state.line e (answer w e).reply + added_up f (after w e) es

-- no signal that is carried is lost but by a foreign verdict or its crash
pub record SignalsKept : Type 0 where
  -- carried before and taken are carried after and used up, of each event, refused ones included
  pub each : (s : State) (e : Event)
      → carried s.line.foreign + taken_by s.line e (step_on s e).reply
      ≡ carried (step_on s e).state.line.foreign + used_up_by s.line e (step_on s e).reply
  -- only a running tick alters a signal: entering status 0 or 3 keeps each with its delay
  pub still : (s : State) (e : Event) → is_running_tick s.line e (step_on s e).reply ≡ false
      → (step_on s e).state.line.foreign ≡ s.line.foreign
  -- "A fit line carries at most eight", after each event
  pub eight : (s : State) (e : Event) → line_fit s.line ≡ true → carried (step_on s e).state.line.foreign ≤ places
  -- and so over every list of events from a fresh line and memory
  pub every : (events : List Event)
      → added_up taken_by fresh_world events ≡ carried (run events).state.line.foreign + added_up used_up_by fresh_world events
  pub few : (events : List Event) → carried (run events).state.line.foreign ≤ places
