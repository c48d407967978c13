-- `sheet_of` has the figures of the definition; the deviation is the mean less the target, and none where the mean is. Assumes nothing.
use borrow.Author.Rules.{rules}
use mathlib.Core.Path.{◌≡◌}
use mir.Facts.{to_z-of_z}
use Rattle.weight.specs.Mean.{mean_of}
use Rattle.laws.proofs.Signed.{back}
use Rattle.sheet.specs.Sheet.{sheet_of}
use Rattle.spread.proofs.Tallies.{fit-facts}
use Rattle.sheet.proofs.Facts.{mean_within, deviation_is}
use Rattle.sheet.proofs.sheet.sheet_of.Goals as goal

pub total_of-total-requires : goal.total_of-total-requires
total_of-total-requires c = (fit-facts c.args.p.tally c.requires.0).tally.verdicts

pub deviation_of-requires : goal.deviation_of-requires
deviation_of-requires c =
    let t = c.args.p.tally in
    -- the mean is that of the sum
    let m : c.mean_of-mean.result ≡ mean_of t.sum t.n = rw (back t.sum (search rules)) at c.mean_of-mean.ensures in
    (rw m (mean_within t c.requires.0), rw (to_z-of_z c.ranges.target) c.requires.1)

pub returns : goal.returns
unfolding sheet_of
returns c =
    let t = c.args.p.tally in
    let m : c.mean_of-mean.result ≡ mean_of t.sum t.n = rw (back t.sum (search rules)) at c.mean_of-mean.ensures in
    rw (
      c.sdp.ensures,
      c.sd.ensures,
      c.deviation_of.ensures,
      c.unless_none-2.ensures,
      c.unless_none.ensures,
      m,
      c.total_of-total.ensures,
      to_z-of_z c.ranges.target,
      deviation_is t.sum c.args.target t.n,
      back t.sum (search rules),
      back t.largest (search rules),
      back t.smallest (search rules),
    )
