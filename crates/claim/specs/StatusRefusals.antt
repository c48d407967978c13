-- 02, T-07 "Why the status refuses".
use Rattle.std.specs.Prelude.{ℕ, ◌≡◌, ◌≢◌, Bool, true, ◌&&◌, ◌||◌, List, eqb, ℤ}
use Rattle.settings.specs.declared.Settings.{Settings}
use Rattle.event.specs.Kind.{is_run, is_stop, is_setup, is_store}
use Rattle.event.specs.Event.{event_ranged}
use Rattle.event.specs.declared.Event.{Event}
use Rattle.status.specs.Status.{running, paused, emergency}
use Rattle.refusal.specs.Table.{status_no, emergency_no, paused_no, number_in}
use Rattle.line.specs.State.{State}
use Rattle.line.specs.Step.{step_on}
use Rattle.line.specs.Refusal.{memory_sound, refusal_of}
use Rattle.line.specs.declared.line.Line.{Line}
use Rattle.claim.specs.Claim.{refusal_in}

-- where neither 8 nor 2 holds, the event has this number exactly when the test says so
abbrev pub Exactly : ℕ → (ℕ → Event → Bool) → Type 0
Exactly number test =
    (l : Line) (count : ℕ) (a : Settings) (ts : List ℤ) (e : Event) → memory_sound l count a ts e ≡ true → event_ranged e ≡ true
    → eqb (number_in (refusal_of l count a ts e)) number ≡ test l.status e

pub record StatusRefusals : Type 0 where
  -- "Refusal 3 remains for running."
  pub running : Exactly status_no (λ s e. (is_run e || is_setup e || is_store e) && eqb s running)
  -- "In emergency run, stop and setup get 9."
  pub emergency : Exactly emergency_no (λ s e. (is_run e || is_stop e || is_setup e) && eqb s emergency)
  -- "Setup while paused gets 10."
  pub paused : Exactly paused_no (λ s e. is_setup e && eqb s paused)
  -- "A user must still find line and sheets unaltered by each of them", as by any refusal
  pub unaltered : (s : State) (e : Event) → refusal_in (step_on s e).reply ≢ 0 → (step_on s e).state ≡ s
