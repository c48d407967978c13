-- `put_count`: the key, and the number behind it. Assumes nothing.
use native.Mathlib.Omega.{arith}
use Rattle.decimal.proofs.Digits.{at_most_20}
use Rattle.print.proofs.Writes.{writes_then, writes_in}
use borrow.Author.Rules.{rules}
use Rattle.print.proofs.lines.Lines.put_count.Goals as goal

pub put_decimal-requires : goal.put_decimal-requires
put_decimal-requires c = let short = at_most_20 c.args.n (omega arith) in search rules

pub returns : goal.returns
returns c = writes_then c.put.ensures (writes_in (at_most_20 c.args.n (omega arith)) c.put_decimal.ensures)
