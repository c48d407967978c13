-- 02, T-01 "Six sorters": what an event makes of one sorter hangs on that sorter, what it is set to, whether the event was a
-- running tick, the verdict given and the status after it, and on no other sorter.
use Rattle.std.specs.Prelude.{ℕ, ◌<◌, ◌≡◌, Bool, ◌||◌, eqb, length, get_or}
use Rattle.laws.specs.Choice.{when◌then◌else◌}
use Rattle.queue.specs.Queue.{waits_of}
use Rattle.device.specs.Sorter.{sorter_off}
use Rattle.device.specs.declared.sorter.Sorter.{Sorter}
use Rattle.event.specs.Setup.{fresh_sorter, sorter_count}
use Rattle.event.specs.declared.SorterSetup.{SorterSetup}
use Rattle.event.specs.declared.Event.{Event}
use Rattle.status.specs.Status.{stopped, emergency}
use Rattle.sorters.specs.Sorters.{ticked_as, entered}
use Rattle.line.specs.State.{State}
use Rattle.line.specs.Step.{step_on}
use Rattle.line.specs.declared.line.Line.{Line}
use Rattle.book.specs.Boxes.{outcome_of}
use Rattle.claim.specs.Claim.{refusal_in}
use Rattle.claim.specs.RunningTick.{is_running_tick}

-- status 0 or 3
abbrev pub is_halted : ℕ → Bool
is_halted status = eqb status stopped || eqb status emergency

-- a running tick: its times fall, and the verdict given, if there is one, enters its queue; else it stays as it is, and
-- "Entering status 0 or 3 .. empties the queue, puts the sorter off"
unfoldable pub sorter_after : Sorter → SorterSetup → Bool → ℕ → ℕ → Sorter
sorter_after s c tick verdict status =
    when tick then entered verdict (ticked_as s c) c
    else (when is_halted status then sorter_off else s)

-- sorter k + 1 of a line, and what it is set to
abbrev pub sorter_of : Line → ℕ → Sorter
sorter_of l k = get_or l.sorters k sorter_off

abbrev pub set_of : Line → ℕ → SorterSetup
set_of l k = get_or l.setup.sorters k fresh_sorter

-- the same waits in the queue and the same on-time: what stands behind the waits is not read
pub record SameSorter (s t : Sorter) : Type 0 where
  pub queue : waits_of s.queue ≡ waits_of t.queue
  pub on : s.on ≡ t.on

pub record SortersApart : Type 0 where
  -- of each accepted event on a line, which has six sorters
  pub each : (s : State) (e : Event) (k : ℕ) → length s.line.sorters ≡ sorter_count → k < sorter_count
      → refusal_in (step_on s e).reply ≡ 0
      → SameSorter (sorter_of (step_on s e).state.line k)
      (sorter_after (sorter_of s.line k) (set_of s.line k) (is_running_tick s.line e (step_on s e).reply) (outcome_of (step_on s e).reply) (step_on s e).state.line.status)
