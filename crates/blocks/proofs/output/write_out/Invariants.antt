-- What the loop keeps.
use Rattle.std.proofs.Common.{◌-◌, length, take}
use Rattle.std.specs.Io.KnownBytes.{Appends}
use Rattle.blocks.proofs.Took.{Took}
use Rattle.blocks.proofs.output.write_out.Given as goal

abbrev pub invariant-loop-done : goal.invariant-loop-done
invariant-loop-done g l = Took l.done (length l.out) × Appends (g.W.Write.contents l.initial.writer) (g.W.Write.contents l.writer) (take l.done l.out)

abbrev pub decreases-loop-done : goal.decreases-loop-done
decreases-loop-done g l = length l.out - l.done
