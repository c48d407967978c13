-- `begin` leaves a call with empty lists, and prints what ends the one before it. Assumes nothing.
use Rattle.exits.specs.Session.{state_of}
use Rattle.exits.proofs.Calls.{begins}
use Rattle.exits.proofs.memory.Session.begin.Goals as goal

pub returns : goal.returns
returns c =
    let a = c.args in
    begins (state_of a.self.now) a.a a.b _ _ c.close-at.ensures.closes
