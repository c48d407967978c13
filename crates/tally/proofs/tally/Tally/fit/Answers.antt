-- `fit` is the definition's test: with a count that is not small it is false, and past that nothing overflows. Assumes nothing.
use borrow.Author.Rules.{rules}
use Rattle.laws.proofs.Signed.{back}
use Rattle.tally.specs.Tally.{tally_fit}
use Rattle.tally.proofs.tally.Tally.fit.Goals as goal

pub returns : goal.returns
unfolding tally_fit
returns c =
    let t = c.args.self in
    rw (
      c.none_is_zero.ensures,
      c.is_weight-2.ensures,
      c.is_weight.ensures,
      c.size.ensures,
      back t.sum (search rules),
      back t.largest (search rules),
      back t.smallest (search rules),
    )
