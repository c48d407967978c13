-- `classes_of`: the counts before place i are read. Assumes nothing.
use borrow.Author.Rules.{rules}
use mathlib.Core.Path.{◌∙◌}
use Prim.Native.Nat.{ℕ}
use native.Mathlib.Omega.{arith}
use native.Mathlib.Numerals.{add-one}
use lib.IntN.{ℤ, pos, nat_abs}
use lib.ListN.{get_or, replicate}
use Rattle.laws.proofs.Signed.{back}
use Rattle.lists.proofs.Pairs.{pairs-none, pairs_next, pairs-done}
use Rattle.tallies.proofs.Lists.{each_given}
use Rattle.tallies.proofs.classes_of.Goals as goal

pub loop-i-init : goal.loop-i-init
loop-i-init c = pairs-none (λ (x : ℕ) (y : ℤ). nat_abs y) _ c.args.p.now

pub loop-i-preserved : goal.loop-i-preserved
loop-i-preserved c =
    let l = c.loop-i in
    let p = c.args.p.now in
    rw (c.size.ensures, back (get_or p l.i (pos 0)) (search rules), l.invariant, add-one)
    (pairs_next (λ (x : ℕ) (y : ℤ). nat_abs y) (replicate 21 0) p l.i 0 (pos 0) (omega arith) (omega arith))

pub returns : goal.returns
returns c =
    let l = c.loop-i in
    let p = c.args.p.now in
    l.invariant ∙ pairs-done (λ (x : ℕ) (y : ℤ). nat_abs y) _ p l.i (omega arith) (omega arith) ∙ each_given nat_abs _ p (omega arith)
