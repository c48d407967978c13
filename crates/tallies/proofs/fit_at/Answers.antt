-- `fit_at` equals its definition `fit_at`. Assumes nothing.
use mathlib.Core.Path.{sym, ◌∙◌}
use Rattle.tallies.specs.Memory.{fit_at}
use Rattle.tallies.proofs.Starts.{starts-not, starts-there, part_here}
use Rattle.tallies.proofs.fit_at.Goals as goal

pub returns-in_default : goal.returns-in_default
unfolding fit_at
returns-in_default c = rw (starts-not c.args.tallies.now c.args.code (sym c.start_of.ensures ∙ c.in_default.is))

pub returns : goal.returns
unfolding fit_at
returns c =
    let a = c.args in
    let e = sym c.start_of.ensures ∙ c.in-Some.is in
    rw (c.part_fit.ensures, part_here a.tallies.now a.code _ e, starts-there a.tallies.now a.code _ e)
