-- What the loop keeps.
use mathlib.Core.Path.{◌≡◌}
use Prim.Native.Nat.{◌≤◌}
use lib.ListN.{length}
use Rattle.std.specs.Io.KnownBytes.{IsAtEnd}
use Rattle.blocks.specs.Left.{last_of, EndSeen, bytes_left}
use Rattle.blocks.specs.Known.{streams}
use Rattle.calls.specs.Traces.{Traced}
use Rattle.calls.proofs.input.serve_input_with_room.Given as goal

abbrev pub invariant-loop : goal.invariant-loop
invariant-loop g l =
    (length l.input ≡ 65536) × (length l.out ≡ g.row.ROOM)
    × (l.left.start ≤ l.left.end) × (l.left.end ≤ 65536)
    × Traced g.C.CallsWithRoom.service (streams (g.R.Read.remaining l.fn.reader) (g.W.Write.contents l.fn.writer)) (streams (g.R.Read.remaining l.reader) (g.W.Write.contents l.writer))
    (g.C.CallsWithRoom.state l.calls) (bytes_left l.left l.input) (last_of l.left) l.counter
    × (EndSeen l.left → IsAtEnd (g.R.Read.remaining l.reader))
    × (l.turns ≡ l.counter)
