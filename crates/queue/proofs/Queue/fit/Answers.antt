-- `fit`: each of the waits decides. Assumes nothing.
use borrow.Author.Rules.{rules}
use borrow.Author.Tests.{tests}
use mathlib.Core.Path.{◌≡◌, refl, ap, ◌∙◌}
use mathlib.Core.Bool.{◌&&◌}
use native.Mathlib.Omega.{arith}
use Rattle.laws.specs.Choice.{within}
use Rattle.lists.specs.Each.{all_of}
use Rattle.std.specs.List.{list_all}
use Rattle.time.specs.Time.{longest}
use Rattle.queue.specs.Queue.{waits_of, queue_fit}
use Rattle.std.proofs.lemmas.Iterator.{YieldsList-from_slice}
use Rattle.std.proofs.lemmas.Iterator.Search.{all_from_yields_List}
use Rattle.std.proofs.lemmas.List.Recursion.{same_from_clauses}
use Rattle.queue.proofs.Queue.fit.Goals as goal

pub returns-then-self-gt-PLACES : goal.returns-then-self-gt-PLACES
unfolding queue_fit
returns-then-self-gt-PLACES c = search (arith, tests, c.if-self-gt-PLACES.true)

pub returns : goal.returns
unfolding queue_fit all_of
returns c =
    let a = c.args in
    let w = c.taken.result.now in
    let p = within a.shortest longest in
    let each = all_from_yields_List p _ _ c.all.result c.all.ensures.ran (YieldsList-from_slice w cc) (λ x b q k. search (rules, tests)) in
    let same = same_from_clauses (list_all p) (all_of p) (λ x t. p x && t) refl (λ _ _. refl) (λ _ _. refl) w in
    let all : c.all.result ≡ all_of p (waits_of a.self) = each ∙ same ∙ ap (all_of p) c.taken.ensures in
    grind (arith, tests, all)
