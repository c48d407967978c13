-- `put`: what a fit part counts is small. Assumes nothing.
use native.Mathlib.Omega.{arith}
use lib.ListN.{length-take, length-drop}
use Rattle.tally.proofs.Facts.{fit_tells}
use Rattle.part.proofs.Laws.{fit-part}
use Rattle.tallies.proofs.put.Goals as goal

pub put_tally-requires : goal.put_tally-requires
put_tally-requires c =
    let f = fit_tells c.args.fit.tally (fit-part c.args.fit c.requires.1).tally in
    (simp length-take (omega arith), f.verdicts, f.bounds.n, omega (arith, f.bounds.squares, f.bounds.n))

pub put_classes-requires : goal.put_classes-requires
put_classes-requires c =
    let p = fit-part c.args.fit c.requires.1 in
    let f = fit_tells c.args.fit.tally p.tally in
    (rw c.put_tally.ensures (simp (length-take, length-drop) (omega arith)), omega (arith, p.sum, f.bounds.n))
