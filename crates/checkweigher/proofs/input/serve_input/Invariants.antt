-- What the loop keeps.
use mathlib.Core.Path.{◌≡◌}
use Prim.Native.Nat.{◌-◌, ◌≤◌, ◌^◌}
use lib.ListN.{length}
use Rattle.std.specs.Io.KnownBytes.{IsAtEnd}
use Rattle.line.specs.State.{state}
use Rattle.blocks.specs.Left.{last_of, bytes_left, EndSeen}
use Rattle.blocks.specs.Known.{streams}
use Rattle.checkweigher.specs.Traces.{Traced}
use Rattle.checkweigher.proofs.input.serve_input.Given as goal

abbrev pub invariant-loop : goal.invariant-loop
invariant-loop g l =
    record {
      input : length l.input ≡ 65536;
      out : length l.out ≡ 65536;
      tallies : length l.tallies ≡ 3400;
      settings : length l.settings ≡ 100;
      order : l.left.start ≤ l.left.end;
      within : l.left.end ≤ 65536;
      turns : l.counter ≤ 2 ^ 64 - 1;
      counted : l.turns ≡ l.counter;
      traced :
          Traced (streams (g.R.Read.remaining l.fn.reader) (g.W.Write.contents l.fn.writer)) (streams (g.R.Read.remaining l.reader) (g.W.Write.contents l.writer))
          (state l.line l.settings l.tallies) (bytes_left l.left l.input) (last_of l.left) l.counter;
      ended : EndSeen l.left → IsAtEnd (g.R.Read.remaining l.reader);
    }
