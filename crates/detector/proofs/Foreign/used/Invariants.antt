-- What the loop keeps.
use Prim.Native.Nat.{◌≤◌}
use lib.ListN.{length}
use Rattle.lists.proofs.Places.{Leaving}
use Rattle.time.specs.Time.{ended}
use Rattle.queue.specs.Queue.{places}
use Rattle.detector.proofs.Foreign.used.Given as goal

abbrev pub invariant-loop-i : goal.invariant-loop-i
invariant-loop-i l = (length l.delay-items ≤ places) × (l.k ≤ l.i) × Leaving places 0 ended l.delay-items l.i l.left l.k
