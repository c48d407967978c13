-- `outcomes_between` is the bit of dismissed and those of the grades. Assumes nothing.
use native.Mathlib.Omega.{arith}
use lib.IntN.{◌-ℤ◌}
use mir.Val.{SFits}
use mir.Syntax.{w64}
use borrow.Author.Tests.{leb-true}
use borrow.Author.Rules.{rules}
use Rattle.std.proofs.lemmas.Int.{ints, to_z-of_z}
use Rattle.possible.specs.Bounds.{undismissed, outcomes_between}
use Rattle.possible.proofs.Signed.{loads-size, undismissed-size}
use Rattle.possible.proofs.outcomes_between.Goals as goal

pub undismissed-first-requires : goal.undismissed-first-requires
undismissed-first-requires c = let k = loads-size c.args.s c.requires.0 in omega (arith, ints)

pub overflow_sub-l : goal.overflow_sub-l
overflow_sub-l c =
    let a = c.args in
    let k = loads-size a.s c.requires.0 in
    let low : SFits w64 a.low = c.ranges.low in
    let near : SFits w64 a.s.nearzero = search rules in
    let first = simp to_z-of_z at c.undismissed-first.ensures in
    omega (arith, ints, leb-true, undismissed-size a.low a.s.nearzero (omega (arith, ints, leb-true)) k.0)

pub overflow_sub-h : goal.overflow_sub-h
overflow_sub-h c = let k = loads-size c.args.s c.requires.0 in omega (arith, ints, leb-true)

pub returns : goal.returns
unfolding outcomes_between
returns c =
    let a = c.args in
    let k = loads-size a.s c.requires.0 in
    let low : SFits w64 a.low = c.ranges.low in
    let high : SFits w64 a.high = c.ranges.high in
    let near : SFits w64 a.s.nearzero = search rules in
    let tare : SFits w64 a.s.tare = search rules in
    let u = undismissed-size a.low a.s.nearzero (omega (arith, ints, leb-true)) k.0 in
    let first : SFits w64 (undismissed a.low a.s.nearzero) = omega (arith, ints) in
    let l : SFits w64 (undismissed a.low a.s.nearzero -ℤ a.s.tare) = omega (arith, ints) in
    let h : SFits w64 (a.high -ℤ a.s.tare) = omega (arith, ints, leb-true) in
    simp (c.outcome_if-dismissed.ensures.0, c.grades_between.ensures.0, c.undismissed-first.ensures, to_z-of_z)
