-- `all_ticked` ticks the six, each with what it is set to. Assumes nothing.
use borrow.Author.Rules.{rules}
use mathlib.Core.List.{List, [], ◌∷◌}
use mathlib.Core.Path.{◌≡◌, ap₂}
use lib.ListN.{length, get_or}
use Rattle.lists.specs.Each.{each_pair}
use Rattle.lists.proofs.Counts.{tab-is}
use Rattle.device.specs.declared.sorter.Sorter.{Sorter}
use Rattle.event.specs.Setup.{sorter_count}
use Rattle.event.specs.declared.SorterSetup.{SorterSetup}
use Rattle.sorters.specs.Sorters.{ticked_as, all_ticked}
use Rattle.sorters.proofs.all_ticked.Goals as goal

-- the six places, one by one
six : (ss : List Sorter) (cs : List SorterSetup) (s : Sorter) (c : SorterSetup) → length ss ≡ sorter_count → length cs ≡ sorter_count
    → ticked_as (get_or ss 0 s) (get_or cs 0 c) ∷ ticked_as (get_or ss 1 s) (get_or cs 1 c) ∷ ticked_as (get_or ss 2 s) (get_or cs 2 c)
    ∷ ticked_as (get_or ss 3 s) (get_or cs 3 c) ∷ ticked_as (get_or ss 4 s) (get_or cs 4 c) ∷ ticked_as (get_or ss 5 s) (get_or cs 5 c) ∷ []
    ≡ each_pair ticked_as ss cs
unfolding each_pair
six ss cs s c h k = ap₂ (each_pair ticked_as) (tab-is sorter_count ss s h) (tab-is sorter_count cs c k)

pub returns : goal.returns
unfolding all_ticked
returns c =
    let a = c.args in
    rw (
      c.ticked_as-one.ensures,
      c.ticked_as-two.ensures,
      c.ticked_as-three.ensures,
      c.ticked_as-four.ensures,
      c.ticked_as-five.ensures,
      c.ticked_as-six.ensures,
    ) (six a.sorters a.setup.sorters _ _ (search rules) (search rules))
