-- What the loop keeps.
use Prim.Native.Nat.{◌*◌}
use lib.ListN.{take}
use Rattle.print.specs.Text.{line_end, ahead}
use Rattle.print.specs.Sheet.{classes_from}
use Rattle.print.specs.Steps.{Writes}
use Rattle.print.proofs.report.put_classes.Given as goal

abbrev pub invariant-loop-k : goal.invariant-loop-k
invariant-loop-k l = Writes l.initial.lines (ahead line_end (classes_from 0 (take l.k l.fn.classes))) (l.k * 29) l.lines
