-- What the loop keeps.
use mathlib.Core.Path.{◌≡◌}
use Rattle.lists.proofs.Pairs.{pairs_to}
use Rattle.sorters.specs.Sorters.{entered}
use Rattle.sorters.proofs.all_entered.Given as goal

abbrev pub invariant-loop-i : goal.invariant-loop-i
invariant-loop-i l = l.all ≡ pairs_to (entered l.verdict) l.initial.all l.setup-items l.i
