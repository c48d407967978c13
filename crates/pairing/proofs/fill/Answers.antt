-- `fill` runs through both lists. Assumes nothing.
use native.Mathlib.Omega.{arith}
use Rattle.pairing.proofs.Filling.{going_start, going-early, going-late, going-pair, done-verdicts, done-signals}
use Rattle.pairing.proofs.fill.Goals as goal

pub loop-i-init : goal.loop-i-init
loop-i-init c = let s = c.args in going_start s.verdicts.now s.signals.now s.a s.b s.pairs.now

pub returns-then-signals-j : goal.returns-then-signals-j
returns-then-signals-j c = done-signals c.loop-i.invariant c.if-signals-j.true

pub loop-i-preserved-then-t-v : goal.loop-i-preserved-then-t-v
loop-i-preserved-then-t-v c = going-early c.loop-i.invariant (omega arith) (omega arith) c.if-t-v.true

pub loop-i-preserved-then-v-b : goal.loop-i-preserved-then-v-b
loop-i-preserved-then-v-b c = going-late c.loop-i.invariant (omega arith) (omega arith) c.if-v-b.true

pub loop-i-preserved : goal.loop-i-preserved
loop-i-preserved c = going-pair c.loop-i.invariant (omega arith) (omega arith) c.if-t-v.false c.if-v-b.false (omega arith)

pub returns : goal.returns
returns c = done-verdicts c.loop-i.invariant c.loop-i-test.false
