-- `steady` equals its definition. Assumes nothing.
use borrow.Author.Rules.{rules}
use borrow.Author.Tests.{eq-eqb}
use mathlib.Core.Path.{◌≡◌}
use mathlib.Core.Bool.{true}
use native.Mathlib.Omega.{arith}
use lib.ListN.{length}
use lib.Seq.{take_all}
use Rattle.laws.proofs.Signed.{back}
use Rattle.bench.specs.Bench.{last_ticks, grosses_of, bench_fit, steady}
use Rattle.bench.specs.declared.Bench.{Bench}
use Rattle.bench.proofs.Grosses.{fit-weights}
use Rattle.bench.proofs.Bench.steady.Goals as goal

-- ten are all that there are
whole : (b : Bench) → length b.grosses ≡ last_ticks → b.n ≡ last_ticks → grosses_of b ≡ b.grosses
unfolding grosses_of
whole b l n = rw n (take_all last_ticks b.grosses (omega arith))

pub apart-requires : goal.apart-requires
apart-requires c =
    let b = c.args.self in
    let yes : bench_fit b ≡ true = cc (c.fit.ensures, c.if-not-fit.false) in
    rw (whole b (search rules) (omega arith)) at (fit-weights b yes)

pub returns : goal.returns
unfolding steady
returns c =
    let b = c.args.self in
    let yes : bench_fit b ≡ true = cc (c.fit.ensures, c.if-not-fit.false) in
    let n : b.n ≡ last_ticks = omega arith in
    rw (eq-eqb b.n last_ticks n, yes, whole b (search rules) n, back c.apart.result c.apart.type_inv, c.apart.ensures)
