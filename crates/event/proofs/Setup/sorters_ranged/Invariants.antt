-- What the loop keeps.
use mathlib.Core.Path.{◌≡◌}
use mathlib.Core.Bool.{◌&&◌}
use lib.ListN.{drop}
use Rattle.lists.specs.Each.{all_of}
use Rattle.event.specs.Setup.{sorter_ranged}
use Rattle.event.proofs.Setup.sorters_ranged.Given as goal

abbrev pub invariant-loop-sorter : goal.invariant-loop-sorter
invariant-loop-sorter l = all_of sorter_ranged l.fn.self.sorters ≡ (l.ranged && all_of sorter_ranged (drop l.sorter-index l.fn.self.sorters))
