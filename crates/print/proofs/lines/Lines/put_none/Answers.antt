-- `put_none`: the key, and `none` behind it. Assumes nothing.
use native.Mathlib.Omega.{arith}
use Rattle.print.proofs.Writes.{writes_then, writes_in}
use Rattle.print.proofs.lines.Lines.put_none.Goals as goal

pub returns : goal.returns
returns c = writes_then c.put.ensures (writes_in (omega arith) c.put-2.ensures)
