-- `put_classes`: the counts before place i are stored. Assumes nothing.
use borrow.Author.Rules.{rules}
use mathlib.Core.Path.{◌≡◌, ◌∙◌}
use Prim.Native.Nat.{ℕ}
use native.Mathlib.Omega.{arith}
use native.Mathlib.Numerals.{add-one}
use lib.IntN.{ℤ, pos}
use lib.ListN.{length, get_or}
use mir.Syntax.{w64}
use mir.Val.{to_z}
use Rattle.laws.proofs.Signed.{sfits_abs}
use Rattle.lists.proofs.Counts.{one_of_sum}
use Rattle.lists.proofs.Pairs.{pairs-none, pairs_next, pairs-done}
use Rattle.tallies.proofs.Lists.{each_given}
use Rattle.tallies.proofs.put_classes.Goals as goal

pub loop-i-init : goal.loop-i-init
loop-i-init c = pairs-none (λ (x : ℤ) (y : ℕ). pos y) c.args.p.now c.args.classes.now

pub overflow_cast-p : goal.overflow_cast-p
overflow_cast-p c =
    let small = one_of_sum c.args.classes.now c.loop-i.i in
    sfits_abs (pos (get_or c.args.classes.now c.loop-i.i 0)) (omega (arith, small))

pub loop-i-preserved : goal.loop-i-preserved
loop-i-preserved c =
    let l = c.loop-i in
    let cs = c.args.classes.now in
    let m : length cs ≡ 21 = search rules in
    let small = one_of_sum cs l.i in
    let e : to_z w64 (get_or cs l.i 0) ≡ pos (get_or cs l.i 0) = search rules in
    rw (e, l.invariant, add-one) (pairs_next (λ (x : ℤ) (y : ℕ). pos y) c.args.p.now cs l.i (pos 0) 0 (omega arith) (omega arith))

pub returns : goal.returns
returns c =
    let l = c.loop-i in
    let cs = c.args.classes.now in
    let m : length cs ≡ 21 = search rules in
    l.invariant ∙ pairs-done (λ (x : ℤ) (y : ℕ). pos y) c.args.p.now cs l.i (omega arith) (omega arith) ∙ each_given pos c.args.p.now cs (omega arith)
