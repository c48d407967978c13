-- What the loop keeps.
use mathlib.Core.Path.{◌≡◌}
use mathlib.Core.Bool.{◌&&◌}
use lib.ListN.{drop}
use Rattle.lists.specs.Each.{all_of}
use Rattle.event.specs.Setup.{sorts_nothing}
use Rattle.event.proofs.Setup.sorts_nothing.Given as goal

abbrev pub invariant-loop-setup : goal.invariant-loop-setup
invariant-loop-setup l = all_of sorts_nothing l.fn.self.sorters ≡ (l.nothing && all_of sorts_nothing (drop l.setup-index l.fn.self.sorters))
