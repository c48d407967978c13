-- What the loop keeps.
use Prim.Native.Nat.{◌+◌, ◌-◌}
use lib.ListN.{length}
use Rattle.pairing.proofs.Filling.{Going}
use Rattle.pairing.proofs.fill.Given as goal

abbrev pub invariant-loop-i : goal.invariant-loop-i
invariant-loop-i l = Going l.verdicts l.signals l.a l.b l.initial.pairs l.pairs l.i l.j l.k

abbrev pub decreases-loop-i : goal.decreases-loop-i
decreases-loop-i l = (length l.verdicts - l.i) + (length l.signals - l.j)
