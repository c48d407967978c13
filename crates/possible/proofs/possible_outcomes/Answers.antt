-- `possible_outcomes` refuses in order, and else has the outcomes of the means between the least and the largest. Assumes nothing.
use native.Mathlib.Omega.{arith}
use Rattle.possible.proofs.Accepted.{accepted, mean-weight, mean_is, is_set}
use Rattle.possible.proofs.Signed.{margin_is, less_margin}
use borrow.Author.Differences.{ints}
use borrow.Author.Rules.{rules}
use Rattle.possible.proofs.possible_outcomes.Goals as goal

pub sum_at-requires-2 : goal.sum_at-requires-2
sum_at-requires-2 c = let h = accepted _ _ _ c.in_ok-accept.ensures in (h.weights, omega (arith, ints), h.many)

pub outcomes_between-requires : goal.outcomes_between-requires
outcomes_between-requires c =
    let h = accepted _ _ _ c.in_ok-accept.ensures in
    let low = mean_is _ _ _ h _ _ _ (search rules) (search rules) c.sum_at.ensures c.mean-low.ensures in
    let high = mean_is _ _ _ h _ _ _ (search rules) (search rules) c.sum_at-2.ensures c.mean-high.ensures in
    (h.fit, rw low (mean-weight _ _ _ h _), rw high (mean-weight _ _ _ h _))

pub returns : goal.returns
returns c =
    let a = c.args in
    let k = c.in_ok-accept.ensures in
    let h = accepted _ _ _ k in
    let low = mean_is _ _ _ h _ _ _ (search rules) (search rules) (rw (less_margin a.e h.few) at c.sum_at.ensures) c.mean-low.ensures in
    let high = mean_is _ _ _ h _ _ _ (search rules) (search rules) (rw (margin_is a.e h.few) at c.sum_at-2.ensures) c.mean-high.ensures in
    (k, rw (c.outcomes_between.ensures, low, high) (is_set a.samples.now a.e a.s h))
