-- `over` meets its contract: what the tests tell, the bracket's first end, and the root as the largest.
use mathlib.Core.Path.{◌≡◌}
use mathlib.Core.Bool.{true}
use Prim.Native.Nat.{◌*◌}
use native.Mathlib.Nat.{mul-pos}
use native.Mathlib.Omega.{arith}
use lib.Dec.{ltb}
use lib.IntN.{nat_abs}
use borrow.Author.Tests.{ltb-true}
use Rattle.laws.proofs.Tests.{both}
use Rattle.spread.specs.Figures.{report_fit, apart_of, times, spread_of}
use Rattle.spread.proofs.Roots.{root-only}
use Rattle.spread.proofs.Tallies.{fit-facts, below-first-end}
use Rattle.spread.proofs.over.Goals as goal

pub root-requires : goal.root-requires
root-requires c =
    let passed : (let a = c.args in (ltb 0 a.m ≡ true) × (report_fit a.t ≡ true)) = both _ _ (rw c.fit.ensures at c.if-m-fit.true) in
    let a = c.args in
    let t = a.t in
    let b = (fit-facts t passed.1).tally.bounds in
    omega (arith, below-first-end t.n a.m t.squares (nat_abs t.sum) (ltb-true _ _ passed.0) (omega arith) (omega arith) b.squares)

pub returns-then-m-fit : goal.returns-then-m-fit
unfolding spread_of
returns-then-m-fit c =
    let passed : (let a = c.args in (ltb 0 a.m ≡ true) × (report_fit a.t ≡ true)) = both _ _ (rw c.fit.ensures at c.if-m-fit.true) in
    let a = c.args in
    let p = ltb-true 0 a.m passed.0 in
    let l = rw c.apart.ensures.is at c.root.ensures in
    let r = root-only (a.t.n * a.m) (times * apart_of a.t) c.root.result (mul-pos {m = a.t.n} {n = a.m} (omega arith) p) l in
    rw (r, ← c.fit.ensures, c.if-m-fit.true)

pub returns : goal.returns
unfolding spread_of
returns c = rw (← c.fit.ensures, c.if-m-fit.false)
