-- `any_blocks`: one of the pairs decides. Assumes nothing.
use borrow.Author.Rules.{rules}
use borrow.Author.Tests.{tests}
use mathlib.Core.Path.{◌≡◌, refl, ap, ◌∙◌}
use mathlib.Core.Bool.{Bool, ◌||◌}
use mathlib.Core.List.{List, [], ◌∷◌}
use Prim.Native.Nat.{ℕ}
use Rattle.std.specs.List.{list_any, zip}
use Rattle.std.proofs.lemmas.Iterator.{YieldsList-from_slice, YieldsList-from_zip}
use Rattle.std.proofs.lemmas.Iterator.Search.{any_from_yields_List}
use Rattle.lists.specs.Each.{any_pair}
use Rattle.device.specs.declared.sorter.Sorter.{Sorter}
use Rattle.event.specs.declared.SorterSetup.{SorterSetup}
use Rattle.sorters.specs.Sorters.{blocks, any_blocks}
use Rattle.sorters.proofs.any_blocks.Goals as goal

-- the verdict blocks at a sorter as it is set
abbrev blocks_at : ℕ → (Sorter × SorterSetup) → Bool
blocks_at v p = blocks v p.0 p.1

paired : (v : ℕ) (ss : List Sorter) (cs : List SorterSetup) → list_any (blocks_at v) (zip ss cs) ≡ any_pair (blocks v) ss cs
unfolding any_pair
paired v [] cs = refl
paired v (s ∷ ss) [] = refl
paired v (s ∷ ss) (c ∷ cs) = ap (◌||◌ (blocks v s c)) (paired v ss cs)

pub returns : goal.returns
unfolding any_blocks
returns c =
    let a = c.args in
    any_from_yields_List (blocks_at a.verdict) c.any.new.self _ c.any.result c.any.ensures.ran
    (YieldsList-from_zip (YieldsList-from_slice a.sorters (cc)) (YieldsList-from_slice a.setup.sorters (cc)))
    (λ x b q k. search (rules, tests))
    ∙ paired a.verdict a.sorters a.setup.sorters
