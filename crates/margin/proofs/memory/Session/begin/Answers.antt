-- `begin` leaves a call without samples, and prints what ends the one before it. Assumes nothing.
use Rattle.margin.specs.Session.{state_of}
use Rattle.margin.proofs.Calls.{begins}
use Rattle.margin.proofs.memory.Session.begin.Goals as goal

pub returns : goal.returns
returns c =
    let a = c.args in
    begins (state_of a.self.now) a.e _ _ c.close-at.ensures.closes
