-- What the loop keeps: the line and both memories are those after the events so far.
use mathlib.Core.Path.{◌≡◌}
use lib.ListN.{take}
use Rattle.line.specs.State.{state}
use Rattle.claim.specs.Run.{run}
use Rattle.example.proofs.weighing.print_one_box.Given as goal

abbrev pub invariant-loop-event : goal.invariant-loop-event
invariant-loop-event l = state l.line l.records l.tallies ≡ (run (take l.event-index l.event-items)).state
