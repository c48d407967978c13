-- `pair_exits` refuses in order, and else gives a largest pairing. Assumes nothing.
use Rattle.pairing.proofs.Accepted.{accepted, few-verdicts, few-signals, given}
use Rattle.pairing.proofs.pair_exits.Goals as goal

pub overflow_sub-result : goal.overflow_sub-result
overflow_sub-result c = few-verdicts (accepted _ _ _ _ _ c.in_ok-accept.ensures) c.fill-k.ensures

pub overflow_sub-result-2 : goal.overflow_sub-result-2
overflow_sub-result-2 c = few-signals (accepted _ _ _ _ _ c.in_ok-accept.ensures) c.fill-k.ensures

pub returns : goal.returns
returns c = let h = c.in_ok-accept.ensures in (h, given (accepted _ _ _ _ _ h) c.fill-k.ensures)
