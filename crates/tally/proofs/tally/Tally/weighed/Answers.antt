-- `weighed` adds a net: with at most 999,999 verdicts the sums stay within 64 bits. Assumes nothing.
use borrow.Author.Rules.{rules}
use native.Mathlib.Omega.{arith}
use mir.Facts.{to_z-of_z}
use Rattle.laws.proofs.Signed.{back, add_back}
use Rattle.tally.specs.Tally.{weighed_with}
use Rattle.tally.proofs.tally.Tally.weighed.Goals as goal

pub returns : goal.returns
unfolding weighed_with
returns c =
    let g = c.larger-largest in
    let l = c.smaller-smallest in
    rw (
      add_back c.args.self.sum c.args.net (search rules) c.ranges.net (omega (arith, c.requires.0.sum, c.requires.0.n, c.requires.1)),
      back g.result g.type_inv,
      back l.result l.type_inv,
      g.ensures,
      l.ensures,
      c.size-m.ensures,
      to_z-of_z c.ranges.net,
    )
