-- `root` meets its contract: low²·n·m ≤ x < high²·n·m at every turn.
use native.Mathlib.Omega.{arith}
use Rattle.spread.proofs.Roots.{largest-between}
use Rattle.spread.proofs.root.Goals as goal

pub returns : goal.returns
returns c = let i = c.loop-low in largest-between _ _ i.low i.high (omega arith) i.invariant.2 i.invariant.3
