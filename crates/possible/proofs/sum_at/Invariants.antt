-- What the loop keeps.
use Rattle.possible.proofs.Adding.{Adding}
use Rattle.possible.proofs.sum_at.Given as goal

abbrev pub invariant-loop-x : goal.invariant-loop-x
invariant-loop-x l = Adding l.d l.samples l.sum l.x-index
