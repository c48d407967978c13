-- Events on a fresh line and memory, one after another. Assumes nothing.
use mathlib.Core.Path.{◌≡◌, refl}
use mathlib.Core.List.{List, []}
use Prim.Native.Nat.{ℕ, ◌+◌, ◌<◌}
use native.Mathlib.Numerals.{add-one}
use lib.ListN.{length, take, get_or}
use lib.Seq.{take-suc}
use Rattle.std.specs.Prelude.{replicate, pos}
use Rattle.settings.specs.Settings.{blank}
use Rattle.tallies.specs.Memory.{zeros}
use Rattle.line.specs.Line.{fresh_line}
use Rattle.event.specs.declared.Event.{Event}
use Rattle.line.specs.Step.{step_on}
use Rattle.line.specs.State.{State, state}
use Rattle.claim.specs.Run.{fresh_world, run_from, run}
use Rattle.replay.proofs.Fold.{run_more}

pub none_yet : state fresh_line (replicate 100 blank) (replicate 3400 (pos 0)) ≡ (run []).state
unfolding run run_from zeros
none_yet = refl

-- with the event that comes next
pub one_more : (events : List Event) (i : ℕ) (d : Event) (s : State) → s ≡ (run (take i events)).state → i < length events
    → (step_on s (get_or events i d)).state ≡ (run (take (i + 1) events)).state
unfolding run
one_more events i d s is h = rw (is, add-one, take-suc events i d h, run_more fresh_world (take i events) (get_or events i d)) refl
