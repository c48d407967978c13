-- `takes` adds up only what a fit tally counts, where n is the number of graded verdicts. Assumes nothing.
use mathlib.Core.Path.{◌≡◌}
use mathlib.Core.Bool.{true}
use native.Mathlib.Omega.{arith}
use mir.Facts.{to_z-of_z}
use Rattle.tally.specs.Tally.{tally_fit, has_room, takes}
use Rattle.tally.proofs.Facts.{fit_tells}
use Rattle.tally.proofs.tally.Tally.takes.Goals as goal

pub overflow_add-total : goal.overflow_add-total
overflow_add-total c = let f = fit_tells c.args.self (cc) in omega (arith, f.verdicts, f.grades)

pub overflow_add-total-2 : goal.overflow_add-total-2
overflow_add-total-2 c = let f = fit_tells c.args.self (cc) in omega (arith, f.verdicts, f.grades)

pub overflow_add-total-3 : goal.overflow_add-total-3
overflow_add-total-3 c = let f = fit_tells c.args.self (cc) in omega (arith, f.verdicts, f.grades)

pub returns : goal.returns
unfolding takes has_room
returns c =
    let y : tally_fit c.args.self ≡ true = cc in
    rw (y, c.is_verdict.ensures, c.is_weight.ensures, to_z-of_z c.ranges.net, (fit_tells c.args.self y).grades)
