-- What the loop keeps.
use mathlib.Core.Path.{◌≡◌}
use lib.ListN.{take}
use Rattle.replay.specs.Replay.{state_of}
use Rattle.replay.proofs.Fold.{ran}
use Rattle.replay.proofs.replay.Given as goal

abbrev pub invariant-loop-e : goal.invariant-loop-e
invariant-loop-e l = state_of l.plant l.tallies ≡ (ran (state_of l.initial.plant l.initial.tallies) (take l.e-index l.events)).state
