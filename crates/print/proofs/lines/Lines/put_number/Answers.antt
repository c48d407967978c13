-- `put_number`: the key, and the number behind it. Assumes nothing.
use mir.Facts.{to_z-of_z}
use Rattle.print.proofs.Writes.{writes_then}
use Rattle.print.proofs.lines.Lines.put_number.Goals as goal

pub returns : goal.returns
returns c = writes_then c.put.ensures (rw (to_z-of_z c.ranges.v) at c.put_signed.ensures)
