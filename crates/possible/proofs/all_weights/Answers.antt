-- `all_weights` tests each sample. Assumes nothing.
use borrow.Author.Rules.{rules}
use borrow.Author.Tests.{tests}
use mathlib.Core.Path.{refl, ◌∙◌}
use mathlib.Core.Bool.{◌&&◌}
use Rattle.lists.specs.Each.{all_of}
use Rattle.std.specs.List.{list_all}
use Rattle.std.proofs.lemmas.Iterator.{YieldsList-from_slice}
use Rattle.std.proofs.lemmas.Iterator.Search.{all_from_yields_List}
use Rattle.std.proofs.lemmas.List.Recursion.{same_from_clauses}
use Rattle.weight.specs.Weight.{is_weight}
use Rattle.possible.proofs.all_weights.Goals as goal

pub returns : goal.returns
unfolding all_of
returns c =
    let l = c.args.samples.now in
    all_from_yields_List is_weight _ _ c.all.result c.all.ensures.ran (YieldsList-from_slice l cc) (λ x b q k. search (rules, tests))
    ∙ same_from_clauses (list_all is_weight) (all_of is_weight) (λ x t. is_weight x && t) refl (λ _ _. refl) (λ _ _. refl) l
