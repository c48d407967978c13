-- `put_pair`: two fields and LF, one behind the other. Assumes nothing.
use mathlib.Core.Path.{sym}
use mathlib.Core.List.{append-nil}
use native.Mathlib.Omega.{arith}
use Rattle.exitlog.specs.Lines.{pair_text}
use Rattle.print.proofs.Writes.{writes_then, writes_in, writes_as}
use Rattle.exitlog.proofs.lines.put_pair.Goals as goal

pub returns : goal.returns
unfolding pair_text
returns c =
    let room = c.requires in
    let v = c.count.ensures.wrote (omega (arith, room)) in
    let s = c.count-2.ensures.wrote (omega (arith, room, v.size, v.wrote.place, v.wrote.short)) in
    let e = c.text.ensures.wrote (omega (arith, room, v.size, v.wrote.place, v.wrote.short, s.size, s.wrote.place, s.wrote.short)) in
    writes_in (omega arith) (writes_then (writes_then v (writes_as (sym (append-nil _)) s)) e)
