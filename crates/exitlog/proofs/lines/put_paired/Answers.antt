-- `put_paired`: the pairs, and the counts behind them. Assumes nothing.
use borrow.Author.Rules.{rules}
use mathlib.Core.List.{◌++◌}
use Prim.Native.Nat.{◌*◌}
use native.Mathlib.Omega.{arith}
use lib.ListN.{take}
use lib.Seq.{length-take-le}
use Rattle.print.proofs.Put.{wrote-front, kept-front, at_front}
use Rattle.print.proofs.Writes.{writes_then}
use Rattle.exitlog.specs.Lines.{counts_text, call_room}
use Rattle.exitlog.specs.Views.{numbers_text}
use Rattle.exitlog.proofs.lines.put_paired.Goals as goal

pub returns-then-out-lt-CALL_ROOM : goal.returns-then-out-lt-CALL_ROOM
returns-then-out-lt-CALL_ROOM c =
    let a = c.args in
    kept-front call_room (numbers_text (take (2 * a.c.pairs) a.pairs.now) ++ counts_text a.c) a.out.now c.if-out-lt-CALL_ROOM.true

pub put_pairs-requires : goal.put_pairs-requires
put_pairs-requires c =
    let a = c.args in
    let r = c.requires in
    let l = length-take-le (2 * a.c.pairs) a.pairs.now r.0 in
    omega (arith, r.1, l, c.if-out-lt-CALL_ROOM.false)

pub put_counts-requires : goal.put_counts-requires
put_counts-requires c =
    let a = c.args in
    let r = c.requires in
    let l = length-take-le (2 * a.c.pairs) a.pairs.now r.0 in
    let w = c.put_pairs.ensures in
    omega (arith, r.1, l, c.if-out-lt-CALL_ROOM.false, w.size, w.wrote.place, w.wrote.short)

pub returns : goal.returns
returns c =
    let w = writes_then c.put_pairs.ensures c.put_counts.ensures in
    let both = wrote-front call_room c.if-out-lt-CALL_ROOM.false w.wrote in
    let bytes = w.wrote.bytes in
    (both.0, at_front call_room (numbers_text (take (2 * c.args.c.pairs) c.args.pairs.now) ++ counts_text c.args.c) c.args.out.now c.if-out-lt-CALL_ROOM.false (search rules))
