-- `used`: the signals before place i are copied but for the oldest that has ended. Assumes nothing.
use borrow.Author.Rules.{rules}
use borrow.Author.Tests.{eqb-true}
use native.Mathlib.Omega.{arith}
use lib.Dec.{eqb}
use lib.ListN.{get_or}
use lib.Seq.{take_all}
use Rattle.laws.proofs.Tests.{both}
use Rattle.lists.proofs.Places.{none_left_lem, left-stays, left-leaves}
use Rattle.time.specs.Time.{ended}
use Rattle.queue.specs.Queue.{places, laid}
use Rattle.queue.proofs.Waits.{few_waits}
use Rattle.detector.specs.Foreign.{signals_of, carrying, oldest_used}
use Rattle.detector.proofs.Foreign.used.Goals as goal
use Rattle.detector.proofs.Foreign.used.Goals.{then-not-oldest, else-not-oldest}

pub loop-i-init : goal.loop-i-init
loop-i-init c = (rw c.taken-delay-items.ensures (few_waits c.args.self.signals (search rules)), omega arith, none_left_lem places 0 ended c.taken-delay-items.result.now)

pub loop-i-preserved : goal.loop-i-preserved
loop-i-preserved c =
    let l = c.loop-i in
    let w = c.taken-delay-items.result.now in
    let x = get_or w l.i 0 in
    elim c.if-not-oldest.branch [
      | then-not-oldest t ↦ (
        l.invariant.0,
        rw t.k-is (omega arith),
        rw (t.left-is, t.k-is) (left-stays places 0 ended w l.i l.left l.k l.invariant.2 (omega arith) (omega arith) t.if-not-oldest.true),
      )
      | else-not-oldest t ↦ let b = both (eqb l.k l.i) (ended x) t.if-not-oldest.false in (
        l.invariant.0,
        rw t.k-is (omega arith),
        rw (t.left-is, t.k-is) (left-leaves places 0 ended w l.i l.left l.k l.invariant.2 (omega arith) (eqb-true l.k l.i b.0) b.1),
      )
    ]

pub returns : goal.returns
unfolding oldest_used carrying laid signals_of
returns c =
    let l = c.loop-i in
    let w = c.taken-delay-items.result.now in
    rw (l.invariant.2.held, l.invariant.2.count, take_all l.i w (omega arith), c.taken-delay-items.ensures)
