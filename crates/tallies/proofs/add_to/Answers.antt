-- `add_to`: counts of which one is not small do not add to n. Assumes nothing.
use mathlib.Core.Path.{sym, ◌∙◌}
use Rattle.tallies.proofs.Counts.{small_counts_lem, large_fails}
use Rattle.tallies.proofs.add_to.Goals as goal

pub returns-then-are_small : goal.returns-then-are_small
returns-then-are_small c = rw (c.sum_of.ensures, small_counts_lem c.args.p.now (sym c.are_small.ensures ∙ c.if-are_small.true))

pub returns-else-are_small : goal.returns-else-are_small
returns-else-are_small c = c.if-are_small.false ∙ sym (large_fails c.args.p.now c.args.n c.requires.1 (sym c.are_small.ensures ∙ c.if-are_small.false))
