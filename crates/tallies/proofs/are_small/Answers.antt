-- `are_small`: each number is tested. Assumes nothing.
use borrow.Author.Rules.{rules}
use borrow.Author.Tests.{tests}
use mathlib.Core.Path.{refl}
use mathlib.Core.Bool.{◌&&◌}
use Rattle.std.specs.List.{list_all}
use Rattle.std.proofs.lemmas.Iterator.{YieldsList-from_slice}
use Rattle.std.proofs.lemmas.Iterator.Search.{all_from_yields_List}
use Rattle.std.proofs.lemmas.List.Recursion.{same_from_clauses}
use Rattle.lists.specs.Each.{all_of}
use Rattle.tallies.specs.Memory.{small_count}
use Rattle.tallies.proofs.are_small.Goals as goal

pub returns : goal.returns
unfolding all_of
returns c =
    let p = c.args.p.now in
    let each = all_from_yields_List small_count _ _ c.all.result c.all.ensures.ran (YieldsList-from_slice p (cc)) (λ x b q k. search (rules, tests)) in
    let same = same_from_clauses (list_all small_count) (all_of small_count) (λ x t. small_count x && t) refl (λ _ _. refl) (λ _ _. refl) p in
    rw (each, same)
