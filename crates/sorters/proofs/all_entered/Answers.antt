-- `all_entered`: the verdict has entered the queues before place i. Assumes nothing.
use borrow.Author.Rules.{rules}
use mathlib.Core.Path.{◌≡◌, ◌∙◌}
use native.Mathlib.Omega.{arith}
use native.Mathlib.Numerals.{add-one}
use lib.ListN.{length}
use Rattle.lists.proofs.Pairs.{pairs-none, pairs_next, pairs-done}
use Rattle.event.specs.Setup.{sorter_count}
use Rattle.sorters.specs.Sorters.{entered, all_entered}
use Rattle.sorters.proofs.all_entered.Goals as goal

pub loop-i-init : goal.loop-i-init
loop-i-init c = pairs-none (entered c.args.verdict) c.args.sorters c.args.setup.sorters

pub loop-i-preserved : goal.loop-i-preserved
loop-i-preserved c =
    let l = c.loop-i in
    let a = c.args in
    let six : length a.sorters ≡ sorter_count = search rules in
    let told : length a.setup.sorters ≡ sorter_count = search rules in
    rw (c.entered.ensures, l.invariant, add-one) (pairs_next (entered a.verdict) a.sorters a.setup.sorters l.i _ _ (omega arith) (omega arith))

pub returns : goal.returns
unfolding all_entered
returns c =
    let l = c.loop-i in
    let a = c.args in
    let six : length a.sorters ≡ sorter_count = search rules in
    let told : length a.setup.sorters ≡ sorter_count = search rules in
    l.invariant ∙ pairs-done (entered a.verdict) a.sorters a.setup.sorters l.i (omega arith) (omega arith)
