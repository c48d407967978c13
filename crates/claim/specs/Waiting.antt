-- 02, T-14 "No box left waiting": `NoBoxWaits` is what `claim::no_box_waits` ensures.
use Rattle.std.specs.Prelude.{ℕ, ◌+◌, ◌*◌, ◌≤◌, ◌≡◌, ◌≢◌, Bool, true, ◌&&◌, ◌||◌, not, List, [], ◌∷◌, ◌++◌, eqb, Ok, Err}
use Rattle.verdict.specs.Verdict as verdict
use Rattle.laws.specs.Choice.{when◌then◌else◌, within, bit}
use Rattle.status.specs.Status.{ninth_error}
use Rattle.event.specs.Reply.{Reply, no_error}
use Rattle.event.specs.declared.Event.{Event}
use Rattle.line.specs.declared.line.Line.{Line}
use Rattle.book.specs.Book.{Turn}
use Rattle.book.specs.Boxes.{detected_by, outcome_of, detected_in, judged_in, outcomes_in}
use Rattle.claim.specs.Run.{World, answer, after, run_from, run}
use Rattle.claim.specs.RunningTick.{is_running_tick}
use Rattle.claim.specs.Signals.{added_up}

abbrev pub error_in : Reply → ℕ
error_in (Err r) = no_error
error_in (Ok d) = d.error

-- "A running tick that error 7 ended is not counted.": a line that runs has error none, so an error 7 in the reply is this tick's
unfoldable pub is_counted : Line → Event → Reply → Bool
is_counted l e r = is_running_tick l e r && not (eqb (error_in r) ninth_error)

-- how many counted ticks these events have, from w on
abbrev pub ticks_in : World → List Event → ℕ
ticks_in w es = added_up (λ l e r. bit (is_counted l e r)) w es

-- the first outcome other than 0 of the replies to these events, 0 if there is none
unfoldable pub next_outcome : World → List Event → ℕ
next_outcome w [] = 0
next_outcome w (e ∷ es) =
    when eqb (outcome_of (answer w e).reply) 0 then next_outcome (after w e) es else outcome_of (answer w e).reply

-- the outcome of the box that e detects on w, once the events es have come; 0 while it has none. The second box of a two-on verdict
-- has it in its own reply; any other outcome there is that of the box before it.
unfoldable pub outcome_of_box : World → Event → List Event → ℕ
outcome_of_box w e es = when eqb (outcome_of (answer w e).reply) verdict.two_on then verdict.two_on else next_outcome (after w e) es

-- a grade, foreign, crash or dismissed: what comes of a box's weight, and not of the next box, a stop or an emergency
abbrev pub is_weighed : ℕ → Bool
is_weighed o = within verdict.lolo verdict.foreign o || eqb o verdict.crash || eqb o verdict.dismissed

-- demand 3's sum without in hand: how many boxes have their outcome
abbrev pub settled_in : List Turn → ℕ
settled_in h = judged_in h + 2 * outcomes_in verdict.two_on h + outcomes_in verdict.dismissed h + outcomes_in verdict.abandoned h

-- "tw + ta running ticks .., with the tw and ta in force at detection": those of the line that the detecting event finds
abbrev pub ticks_due : Line → ℕ
ticks_due l = l.setup.tw + l.setup.ta

-- what holds of the box that e detects on w, once the events es have come; the ticks are those of es, the detection's own is none
pub record Served (w : World) (e : Event) (es : List Event) : Type 0 where
  -- "a box whose detection is followed there by tw + ta running ticks has its outcome by the last of these"
  pub limit : ticks_due w.state.line ≤ ticks_in (after w e) es → outcome_of_box w e es ≢ 0
  -- and a weighed outcome does not come before the last of these
  pub soonest : is_weighed (outcome_of_box w e es) ≡ true → ticks_due w.state.line ≤ ticks_in (after w e) es
  -- the outcome is its own: while it has none, no other box is detected, and all but it have theirs
  pub newest : outcome_of_box w e es ≡ 0 → detected_in (run_from (after w e) es).history ≡ detected_in (after w e).history
  pub alone : outcome_of_box w e es ≡ 0 → detected_in (run_from (after w e) es).history ≡ settled_in (run_from (after w e) es).history + 1
  -- and once it has one, so have all that were detected up to it
  pub settled : outcome_of_box w e es ≢ 0 → detected_in (after w e).history ≤ settled_in (run_from (after w e) es).history

-- of each box of a list of events: e detects it, and `between` is as much as one likes of what follows
abbrev pub AllServed : List Event → Type 0
AllServed events =
    (before : List Event) (e : Event) (between rest : List Event)
    → events ≡ before ++ e ∷ between ++ rest
    → detected_by (answer (run before) e).reply ≡ 1
    → Served (run before) e between

-- "For every list of events from a fresh line and memory"
abbrev pub NoBoxWaits : Type 0
NoBoxWaits = (events : List Event) → AllServed events
