-- `ticks_fit` tests each tick. Assumes nothing.
use borrow.Author.Rules.{rules}
use borrow.Author.Tests.{tests}
use mathlib.Core.Path.{refl, ◌∙◌}
use mathlib.Core.Bool.{◌&&◌}
use lib.Dec.{leb}
use Rattle.lists.specs.Each.{all_of}
use Rattle.std.specs.List.{list_all}
use Rattle.std.proofs.lemmas.Iterator.{YieldsList-from_slice}
use Rattle.std.proofs.lemmas.Iterator.Search.{all_from_yields_List}
use Rattle.std.proofs.lemmas.List.Recursion.{same_from_clauses}
use Prim.Native.Nat.{ℕ}
use Rattle.pairing.specs.Answer.{last_tick}
use Rattle.pairing.proofs.ticks_fit.Goals as goal

pub returns : goal.returns
unfolding all_of
returns c =
    let l = c.args.l.now in
    let p = λ (t : ℕ). leb t last_tick in
    all_from_yields_List p _ _ c.all.result c.all.ensures.ran (YieldsList-from_slice l cc) (λ x b q k. search (rules, tests))
    ∙ same_from_clauses (list_all p) (all_of p) (λ x t. p x && t) refl (λ _ _. refl) (λ _ _. refl) l
