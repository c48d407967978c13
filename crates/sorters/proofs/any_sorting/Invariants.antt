-- What the loop keeps.
use mathlib.Core.Path.{◌≡◌}
use mathlib.Core.Bool.{◌||◌}
use lib.ListN.{drop}
use Rattle.lists.specs.Each.{any_of}
use Rattle.device.specs.Sorter.{sorting}
use Rattle.sorters.proofs.any_sorting.Given as goal

abbrev pub invariant-loop-sorter : goal.invariant-loop-sorter
invariant-loop-sorter l = any_of sorting l.fn.sorters ≡ (l.found || any_of sorting (drop l.sorter-index l.fn.sorters))
