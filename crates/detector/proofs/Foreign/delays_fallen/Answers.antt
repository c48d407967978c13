-- `delays_fallen`: the delays before place i have fallen. Assumes nothing.
use borrow.Author.Rules.{rules}
use mathlib.Core.Path.{◌≡◌, refl}
use mathlib.Core.Bool.{false}
use native.Mathlib.Omega.{arith}
use lib.ListN.{length-map}
use lib.Seq.{take_all}
use Rattle.lists.proofs.Places.{change_next}
use Rattle.time.specs.Time.{fallen}
use Rattle.queue.specs.Queue.{places, laid, is_empty}
use Rattle.queue.proofs.Waits.{few_waits}
use Rattle.detector.specs.Foreign.{signals_of, carrying, delays_fallen}
use Rattle.detector.proofs.Foreign.delays_fallen.Goals as goal

pub loop-i-init : goal.loop-i-init
loop-i-init c = (rw c.taken-delays.ensures (few_waits c.args.self.signals (search rules)), refl)

pub loop-i-preserved : goal.loop-i-preserved
loop-i-preserved c =
    let l = c.loop-i in
    let d = c.taken-delays.result.now in
    (l.invariant.0, rw (l.invariant.1, c.saturating_sub.ensures) (change_next places 0 fallen d l.i (omega arith) (omega arith)))

pub returns : goal.returns
unfolding delays_fallen carrying laid signals_of
returns c =
    let l = c.loop-i in
    let w = c.taken-delays.result.now in
    let e : is_empty c.args.self.signals ≡ false = cc in
    rw (e, l.invariant.1, take_all l.i w (omega arith), ← c.taken-delays.ensures, length-map w fallen)
