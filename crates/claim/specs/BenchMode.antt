-- 02, T-02 "Bench mode": what holds of it over every list of events. What arms and what detects is told from the state before
-- an event, the event and its reply.
use Rattle.std.specs.Prelude.{◌≡◌, Bool, true, false, ◌&&◌, ◌||◌, List, [], ◌∷◌, eqb}
use Rattle.std.specs.Int.Signed.{le_z}
use Rattle.verdict.specs.Verdict as verdict
use Rattle.laws.specs.Choice.{within}
use Rattle.settings.specs.declared.Settings.{Settings}
use Rattle.event.specs.Kind.{is_run, of_sample}
use Rattle.event.specs.Setup.{is_bench}
use Rattle.event.specs.declared.Event.{Event}
use Rattle.event.specs.Reply.{Reply}
use Rattle.status.specs.Status.{stopped}
use Rattle.line.specs.State.{active_of}
use Rattle.line.specs.declared.line.Line.{Line}
use Rattle.book.specs.Boxes.{detected_by, outcome_of}
use Rattle.claim.specs.Claim.{refusal_in}
use Rattle.claim.specs.Run.{World, answer, after, run_from, run}
use Rattle.claim.specs.RunningTick.{is_running_tick}

-- a box detected in mode 4
unfoldable pub taken_by_hand : Line → Reply → Bool
taken_by_hand l r = is_bench l.setup && eqb (detected_by r) 1

-- "A run accepted from stopped arms it, and so does a running tick with gross ≤ nearzero.": a is the record of the code then active
unfoldable pub armed_by : Line → Settings → Event → Reply → Bool
armed_by l a e r =
    is_run e && eqb (refusal_in r) 0 && eqb l.status stopped
    || is_running_tick l e r && of_sample (λ s. le_z s.gross a.nearzero) false e

-- one of these events arms
unfoldable pub armed_in : World → List Event → Bool
armed_in w [] = false
armed_in w (e ∷ es) = armed_by w.state.line (active_of w.state) e (answer w e).reply || armed_in (after w e) es

pub record BenchMode : Type 0 where
  -- "two-on cannot occur": a reply with outcome 7 comes only from a line in mode 1 or 2
  pub alone : (events : List Event) (e : Event) → outcome_of (answer (run events) e).reply ≡ verdict.two_on → within 1 2 (run events).state.line.setup.mode ≡ true
  -- between two detections in mode 4 there is an arming: a box that lies still under an unchanged nearzero is weighed once
  pub once :
      (events between : List Event) (first second : Event)
      → let w = run events in
      let then = after w first in
      let last = run_from then between in
      taken_by_hand w.state.line (answer w first).reply ≡ true
      → taken_by_hand last.state.line (answer last second).reply ≡ true
      → armed_in then between ≡ true
