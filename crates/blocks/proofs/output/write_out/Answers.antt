-- `write_out` adds up what the writes took, and the writer has it. Assumes nothing.
use borrow.Author.Rules.{rules}
use Prim.Native.Nat.{◌+◌, ◌-◌}
use native.Mathlib.Omega.{arith}
use lib.ListN.{length}
use Rattle.std.proofs.KnownBytes.{Appends-nil}
use Rattle.blocks.proofs.Took.{took_none, took_more}
use Rattle.blocks.proofs.Writes.{wrote}
use Rattle.blocks.proofs.output.write_out.Goals as goal

pub loop-done-init : goal.loop-done-init
loop-done-init g c = (took_none (length c.args.out.now), Appends-nil _)

pub loop-done-preserved : goal.loop-done-preserved
loop-done-preserved g c =
    let l = c.loop-done in
    let out = c.args.out.now in
    let put = c.unwrap_or-put.ensures in
    let size = c.unwrap_or-put.result in (
      took_more l.done _ size l.invariant.0 (search rules),
      wrote _ _ _ c.write.result out l.done (length out - l.done) (l.done + size) (omega (arith, put)) (search rules) l.invariant.1 c.write.ensures.bound c.write.ensures.bytes,
    )
