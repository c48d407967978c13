-- What the loop keeps.
use Prim.Native.Nat.{◌-◌, ◌*◌, ◌≤◌, ◌<◌}
use Rattle.spread.specs.Wide.{value}
use Rattle.spread.proofs.root.Given as goal

abbrev pub invariant-loop-low : goal.invariant-loop-low
invariant-loop-low l = (l.low < l.high) × (l.high ≤ 15000000) × (l.low * l.low * (l.n * l.m) ≤ value l.x) × (value l.x < l.high * l.high * (l.n * l.m))

abbrev pub decreases-loop-low : goal.decreases-loop-low
decreases-loop-low l = l.high - l.low
