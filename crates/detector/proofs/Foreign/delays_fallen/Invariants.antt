-- What the loop keeps.
use mathlib.Core.List.{map}
use mathlib.Core.Path.{◌≡◌}
use Prim.Native.Nat.{◌≤◌}
use lib.ListN.{length, take}
use Rattle.lists.specs.Places.{in_places}
use Rattle.time.specs.Time.{fallen}
use Rattle.queue.specs.Queue.{places}
use Rattle.detector.proofs.Foreign.delays_fallen.Given as goal

abbrev pub invariant-loop-i : goal.invariant-loop-i
invariant-loop-i l = (length l.delays ≤ places) × (l.left ≡ in_places places 0 (map fallen (take l.i l.delays)))
