-- `all_fit`: each of the six decides. Assumes nothing.
use borrow.Author.Rules.{rules}
use borrow.Author.Tests.{tests}
use mathlib.Core.Path.{refl}
use mathlib.Core.Bool.{◌&&◌}
use Rattle.std.specs.List.{list_all}
use Rattle.std.proofs.lemmas.Iterator.{YieldsList-from_slice}
use Rattle.std.proofs.lemmas.Iterator.Search.{all_from_yields_List}
use Rattle.std.proofs.lemmas.List.Recursion.{same_from_clauses}
use Rattle.lists.specs.Each.{all_of}
use Rattle.device.specs.Sorter.{sorter_fit}
use Rattle.sorters.specs.Sorters.{all_fit}
use Rattle.sorters.proofs.all_fit.Goals as goal

pub returns : goal.returns
unfolding all_fit all_of
returns c =
    let ss = c.args.sorters in
    let each = all_from_yields_List sorter_fit _ _ c.all.result c.all.ensures.ran (YieldsList-from_slice ss cc) (λ x b q k. search (rules, tests)) in
    let same = same_from_clauses (list_all sorter_fit) (all_of sorter_fit) (λ x t. sorter_fit x && t) refl (λ _ _. refl) (λ _ _. refl) ss in
    rw (each, same)
