-- `read` gives code's part. Assumes nothing.
use mathlib.Core.Path.{sym, ◌∙◌}
use Rattle.tallies.proofs.Starts.{starts-not, starts-there, part_here}
use Rattle.tallies.proofs.read.Goals as goal

pub returns-in_default : goal.returns-in_default
returns-in_default c = rw (starts-not c.args.tallies.now c.args.code (sym c.start_of.ensures ∙ c.in_default.is)) c.empty.ensures

pub returns : goal.returns
returns c =
    let a = c.args in
    let e = sym c.start_of.ensures ∙ c.in-Some.is in
    rw (c.part_of.ensures, part_here a.tallies.now a.code _ e, starts-there a.tallies.now a.code _ e)
