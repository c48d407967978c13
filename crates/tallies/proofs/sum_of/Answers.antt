-- `sum_of`: the counts before place i are added. Assumes nothing.
use mathlib.Core.List.{List}
use mathlib.Core.Bool.{true}
use mathlib.Core.Path.{◌≡◌, ap, ◌∙◌}
use Prim.Native.Nat.{ℕ, ◌<◌, ◌≤◌}
use native.Mathlib.Omega.{arith}
use lib.IntN.{ℤ, pos, nat_abs}
use lib.ListN.{length, get_or}
use mir.Syntax.{w64}
use mir.Val.{to_z, of_z}
use Rattle.laws.proofs.Signed.{back, sfits_abs}
use Rattle.lists.specs.Each.{all_of}
use Rattle.tallies.specs.Memory.{small_count}
use Rattle.tallies.proofs.Counts.{small_at, small_is, sum-next, sum-end}
use Rattle.tallies.proofs.sum_of.Goals as goal

-- a number that was tested is its size, which is small
size_is : (p : List ℤ) (i n : ℕ) → i < length p → all_of small_count p ≡ true → n ≡ nat_abs (to_z w64 (of_z w64 (get_or p i (pos 0))))
    → (n ≡ nat_abs (get_or p i (pos 0))) × (n ≤ 999999)
size_is p i n h s e =
    let x = get_or p i (pos 0) in
    let m = small_is x (small_at p i h s) in
    let same : n ≡ nat_abs x = e ∙ ap nat_abs (back x (sfits_abs x (omega (arith, m.1))).sfits) in
    (same, omega (arith, m.1, same))

pub overflow_add-sum : goal.overflow_add-sum
overflow_add-sum c =
    let l = c.loop-x in
    omega (arith, size_is c.args.p.now l.x-index _ c.loop-x-test.true c.requires.1 c.size-sum.ensures)

pub loop-x-preserved : goal.loop-x-preserved
loop-x-preserved c =
    let l = c.loop-x in
    let w = c.args.p.now in
    let e = size_is w l.x-index _ c.loop-x-test.true c.requires.1 c.size-sum.ensures in
    (omega (arith, e.1), omega (arith, l.invariant.1, e.0, sum-next w l.x-index (omega arith)))

pub returns : goal.returns
returns c =
    let l = c.loop-x in
    omega (arith, l.invariant.1, sum-end c.args.p.now l.x-index (omega arith))
