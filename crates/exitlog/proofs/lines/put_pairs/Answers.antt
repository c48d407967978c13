-- `put_pairs` writes pair by pair. Assumes nothing.
use borrow.Author.Rules.{rules}
use native.Mathlib.Omega.{arith}
use Rattle.exitlog.proofs.Writing.{going_start, going_on, room-left, going_ends}
use Rattle.exitlog.proofs.lines.put_pairs.Goals as goal

pub loop-i-init : goal.loop-i-init
loop-i-init c = let room = c.requires in going_start c.args.lines.now c.args.pairs.now (omega (arith, room))

pub put_pair-requires : goal.put_pair-requires
put_pair-requires c =
    let l = c.loop-i in
    room-left c.args.lines.now c.args.pairs.now l.lines l.i l.invariant (search rules) c.requires

pub loop-i-preserved : goal.loop-i-preserved
loop-i-preserved c =
    let l = c.loop-i in
    going_on c.args.lines.now c.args.pairs.now l.lines l.i l.invariant (search rules) _ c.put_pair.ensures

pub returns : goal.returns
returns c =
    let l = c.loop-i in
    going_ends c.args.lines.now c.args.pairs.now l.lines l.i l.invariant c.loop-i-test.false
