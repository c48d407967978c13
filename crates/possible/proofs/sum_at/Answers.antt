-- `sum_at` adds the samples, each moved and held within the weights. Assumes nothing.
use native.Mathlib.Omega.{arith}
use borrow.Author.Rules.{rules}
use lib.IntN.{pos}
use lib.ListN.{get_or}
use mir.Syntax.{w64}
use mir.Val.{SFits}
use Rattle.std.proofs.lemmas.Int.{ints, to_z-of_z}
use Rattle.possible.proofs.Samples.{clipped-size}
use Rattle.possible.proofs.Adding.{next_left}
use Rattle.possible.proofs.sum_at.Goals as goal

pub overflow_add-sum : goal.overflow_add-sum
overflow_add-sum c =
    let x = get_or c.args.samples.now c.loop-x.x-index (pos 0) in
    let d : SFits w64 c.args.d = c.ranges.d in
    let fits : SFits w64 x = search rules in
    let next = simp to_z-of_z at c.clipped-sum.ensures in
    let so-far = simp to_z-of_z at c.loop-x.invariant in
    omega (arith, ints, clipped-size c.args.d x)

pub loop-x-preserved : goal.loop-x-preserved
loop-x-preserved c =
    let l = c.loop-x in
    let x = get_or c.args.samples.now l.x-index (pos 0) in
    let d : SFits w64 c.args.d = c.ranges.d in
    let fits : SFits w64 x = search rules in
    let next = simp to_z-of_z at c.clipped-sum.ensures in
    let so-far = simp to_z-of_z at l.invariant in
    simp to_z-of_z (omega (arith, ints, clipped-size c.args.d x, next_left c.args.d c.args.samples.now l.x-index (omega arith)))
