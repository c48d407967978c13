-- What the loop keeps.
use Rattle.exitlog.proofs.Writing.{Going}
use Rattle.exitlog.proofs.lines.put_pairs.Given as goal

abbrev pub invariant-loop-i : goal.invariant-loop-i
invariant-loop-i l = Going l.initial.lines l.pairs l.lines l.i
