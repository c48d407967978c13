-- `fit`: each of the grosses decides. Assumes nothing.
use borrow.Author.Rules.{rules}
use borrow.Author.Tests.{tests}
use mathlib.Core.Path.{◌≡◌, refl, ◌∙◌}
use mathlib.Core.Bool.{◌&&◌}
use native.Mathlib.Omega.{arith}
use lib.ListN.{take}
use Rattle.std.specs.List.{list_all}
use Rattle.std.proofs.lemmas.Iterator.{YieldsList-from_slice}
use Rattle.std.proofs.lemmas.Iterator.Search.{all_from_yields_List}
use Rattle.std.proofs.lemmas.List.Recursion.{same_from_clauses}
use Rattle.lists.specs.Each.{all_of}
use Rattle.weight.specs.Weight.{is_weight}
use Rattle.bench.specs.Bench.{grosses_of, bench_fit}
use Rattle.bench.proofs.Bench.fit.Goals as goal

pub returns-then-self-gt-TICKS : goal.returns-then-self-gt-TICKS
unfolding bench_fit
returns-then-self-gt-TICKS c = search (arith, tests, c.if-self-gt-TICKS.true)

pub returns : goal.returns
unfolding bench_fit grosses_of all_of
returns c =
    let b = c.args.self in
    let kept = take b.n b.grosses in
    let each = all_from_yields_List is_weight _ _ c.all.result c.all.ensures.ran (YieldsList-from_slice kept cc) (λ x b q k. search (rules, tests)) in
    let same = same_from_clauses (list_all is_weight) (all_of is_weight) (λ x t. is_weight x && t) refl (λ _ _. refl) (λ _ _. refl) kept in
    let all : c.all.result ≡ all_of is_weight kept = each ∙ same in
    grind (arith, tests, all)
