-- What the loop keeps.
use Prim.Native.Nat.{◌+◌}
use mathlib.Core.Path.{◌≡◌}
use lib.ListN.{length}
use Rattle.decimal.specs.Number.{decimal}
use Rattle.print.proofs.buffer.width.Given as goal

abbrev pub invariant-loop-m : goal.invariant-loop-m
invariant-loop-m l = l.digits + length (decimal l.m) ≡ length (decimal l.n) + 1

abbrev pub decreases-loop-m : goal.decreases-loop-m
decreases-loop-m l = l.m
