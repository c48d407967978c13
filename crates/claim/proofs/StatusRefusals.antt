-- Why the status refuses, and that a refusal alters nothing. Assumes nothing.
use mathlib.Core.Path.{◌≡◌, refl}
use mathlib.Core.Logic.{◌≢◌}
use mathlib.Core.Bool.{true}
use mathlib.Core.List.{List}
use Prim.Native.Nat.{ℕ}
use lib.Dec.{eqb}
use lib.IntN.{ℤ}
use lib.ListN.{length}
use Rattle.settings.specs.declared.Settings.{Settings}
use Rattle.event.specs.Event.{event_ranged}
use Rattle.event.specs.declared.Event.{Event}
use Rattle.refusal.specs.Table.{status_no, emergency_no, paused_no, number_in}
use Rattle.refusal.specs.Rows.{refused_running, refused_in_emergency, refused_paused}
use Rattle.refusal.proofs.Numbers as numbers
use Rattle.refusal.proofs.Status.{emergency-apart, paused-apart}
use Rattle.line.specs.State.{State, state, active_of}
use Rattle.line.specs.Storing.{stored}
use Rattle.line.specs.Tallying.{Out}
use Rattle.line.specs.Step.{step_on}
use Rattle.line.specs.Refusal.{memory_sound, faults_of, refusal_of}
use Rattle.line.specs.declared.line.Line.{Line}
use Rattle.line.proofs.Accepted.{step_ind}
use Rattle.claim.specs.Claim.{refusal_in}
use Rattle.claim.specs.StatusRefusals.{StatusRefusals}
use Rattle.claim.proofs.RunningTicks.{accepted-in}

module _ (l : Line) (count : ℕ) (a : Settings) (ts : List ℤ) (e : Event) (sound : memory_sound l count a ts e ≡ true) (ranged : event_ranged e ≡ true) where
  running-shown : eqb (number_in (refusal_of l count a ts e)) status_no ≡ refused_running l.status e
  unfolding refusal_of
  running-shown = numbers.running-shown (faults_of l count a ts e) (rw sound refl) refl (rw ranged refl)

  emergency-shown : eqb (number_in (refusal_of l count a ts e)) emergency_no ≡ refused_in_emergency l.status e
  unfolding refusal_of
  emergency-shown = numbers.emergency-shown (faults_of l count a ts e) (rw sound refl) refl (rw ranged refl) (emergency-apart l.status e)

  paused-shown : eqb (number_in (refusal_of l count a ts e)) paused_no ≡ refused_paused l.status e
  unfolding refusal_of
  paused-shown = numbers.paused-shown (faults_of l count a ts e) (rw sound refl) refl (rw ranged refl) (paused-apart l.status e)

unaltered : (s : State) (e : Event) → refusal_in (step_on s e).reply ≢ 0 → (step_on s e).state ≡ s
unaltered s e =
    let a = active_of s in
    step_ind (λ (o : Out). refusal_in o.reply ≢ 0 → state o.line (stored s.settings o.storing) o.tallies ≡ s) s.line (length s.settings) a s.tallies e
    (λ y h. absurd (h (accepted-in s.line (length s.settings) a s.tallies e y)))
    (λ _ _ _. refl)

pub status_refusals : StatusRefusals
unfolding refused_running refused_in_emergency refused_paused
status_refusals =
    record {
      running = running-shown;
      emergency = emergency-shown;
      paused = paused-shown;
      unaltered = unaltered;
    }
