-- `call_lines` prints what the call answers. Assumes nothing.
use Rattle.exitlog.proofs.Writing.{pairs-within, paired-lines, refused-line}
use Rattle.exitlog.proofs.lines.call_lines.Goals as goal

pub put_paired-requires : goal.put_paired-requires
put_paired-requires c =
    let a = c.args in
    let call = c.pair_exits in
    let e = rw c.in-Ok.is at call.ensures in
    pairs-within a.verdicts.now a.signals.now a.a a.b a.pairs.now call.new.pairs _ e.0 e.1

pub returns-in-Err : goal.returns-in-Err
returns-in-Err c =
    let a = c.args in
    let e = rw c.in-Err.is at c.pair_exits.ensures in
    refused-line a.verdicts.now a.signals.now a.a a.b _ _ e.0 _ _ _ (rw c.number.ensures at c.put_refused.ensures)

pub returns-in-Ok : goal.returns-in-Ok
returns-in-Ok c =
    let a = c.args in
    let call = c.pair_exits in
    let e = rw c.in-Ok.is at call.ensures in
    paired-lines a.verdicts.now a.signals.now a.a a.b a.pairs.now call.new.pairs _ e.0 e.1 _ _ _ c.put_paired.ensures
