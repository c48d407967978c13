-- `put_counts`: three fields and LF, one behind the other. Assumes nothing.
use mathlib.Core.Path.{sym}
use mathlib.Core.List.{append-nil}
use native.Mathlib.Omega.{arith}
use Rattle.exitlog.specs.Lines.{counts_text}
use Rattle.print.proofs.Writes.{writes_then, writes_in, writes_as}
use Rattle.exitlog.proofs.lines.put_counts.Goals as goal

pub returns : goal.returns
unfolding counts_text
returns c =
    let room = c.requires in
    let p = c.count.ensures.wrote (omega (arith, room)) in
    let m = c.count-2.ensures.wrote (omega (arith, room, p.size, p.wrote.place, p.wrote.short)) in
    let x = c.count-3.ensures.wrote (omega (arith, room, p.size, p.wrote.place, p.wrote.short, m.size, m.wrote.place, m.wrote.short)) in
    let e = c.text.ensures.wrote (omega (arith, room, p.size, p.wrote.place, p.wrote.short, m.size, m.wrote.place, m.wrote.short, x.size, x.wrote.place, x.wrote.short)) in
    writes_in (omega arith) (writes_then (writes_then p (writes_then m (writes_as (sym (append-nil _)) x))) e)
