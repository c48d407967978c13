-- `put_refused`: two fields and LF, one behind the other. Assumes nothing.
use mathlib.Core.Path.{sym}
use mathlib.Core.List.{append-nil}
use native.Mathlib.Omega.{arith}
use Rattle.print.specs.Reply.{refused_text}
use Rattle.print.proofs.Writes.{writes_then, writes_in, writes_as}
use Rattle.print.proofs.reply.put_refused.Goals as goal

pub returns : goal.returns
unfolding refused_text
returns c =
    writes_in (omega arith) (writes_then (writes_then c.put_count.ensures (writes_as (sym (append-nil _)) c.put_count-2.ensures)) c.end_line.ensures)
