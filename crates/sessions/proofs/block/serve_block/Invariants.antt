-- What the loop keeps: what is left leads to what is answered to the whole block.
use mathlib.Core.Path.{◌≡◌}
use Prim.Native.Nat.{◌+◌, ◌-◌, ◌≤◌}
use lib.ListN.{length}
use Rattle.line.specs.State.{state}
use Rattle.sessions.specs.Sessions.{answering}
use Rattle.sessions.proofs.Goes.{rest}
use Rattle.sessions.proofs.block.serve_block.Given as goal

abbrev pub invariant-loop-start : goal.invariant-loop-start
invariant-loop-start l =
    (l.start ≤ length l.input) × (answering (state l.initial.line l.initial.records l.initial.tallies) l.input l.initial.out ≡ rest (state l.line l.records l.tallies) l.input l.out l.start l.at)

abbrev pub decreases-loop-start : goal.decreases-loop-start
decreases-loop-start l = length l.input + 1 - l.start
