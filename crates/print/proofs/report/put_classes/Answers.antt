-- `put_classes`: before each pass the lines of the classes before k are written. Assumes nothing.
use mathlib.Core.Path.{sym}
use native.Mathlib.Omega.{arith}
use Rattle.print.proofs.Writes.{writes_none, writes_then, writes_in, writes_as}
use Rattle.print.proofs.Classes.{text-more, text-none}
use borrow.Author.Rules.{rules}
use Rattle.print.proofs.report.put_classes.Goals as goal

pub loop-k-init : goal.loop-k-init
loop-k-init c = writes_as (sym (text-none c.args.classes)) (writes_none c.args.lines.now (omega (arith, c.requires)))

pub loop-k-preserved : goal.loop-k-preserved
loop-k-preserved c = writes_in (omega arith) (writes_as (text-more c.args.classes c.loop-k.k (search rules)) (writes_then c.loop-k.invariant c.put_class.ensures))
