-- `n_times_q`: the squares of a fit tally are at most 10^18. Assumes nothing.
use native.Mathlib.Omega.{arith}
use Rattle.tally.proofs.Facts.{fit_tells}
use Rattle.spread.proofs.n_times_q.Goals as goal

pub by-requires : goal.by-requires
by-requires c = omega (arith, (fit_tells c.args.t c.requires).bounds)
