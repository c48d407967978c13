-- What the loop keeps.
use Prim.Native.Nat.{◌≤◌}
use lib.ListN.{length}
use Rattle.lists.proofs.Places.{Packing}
use Rattle.time.specs.Time.{fallen, ended}
use Rattle.queue.specs.Queue.{places}
use Rattle.queue.proofs.Queue.ticked.Given as goal

abbrev pub invariant-loop-wait : goal.invariant-loop-wait
invariant-loop-wait l = (length l.wait-items ≤ places) × Packing places 0 ended fallen l.wait-items l.wait-index l.left l.k
