-- `put_name` writes a name that is possible, behind a comma unless it is the first. Assumes nothing.
use native.Mathlib.Omega.{arith}
use borrow.Author.Tests.{eq-eqb, ne_eqb}
use Rattle.print.proofs.Writes.{writes_none, writes_in, writes_then}
use Rattle.marginlog.specs.Views.{start}
use Rattle.marginlog.proofs.lines.put_name.Goals as goal

pub returns-then-not-possible : goal.returns-then-not-possible
returns-then-not-possible c room =
    let a = c.args in
    rw (c.if-not-possible.true) (writes_in (omega arith) (writes_none a.lines.now (omega (arith, room))))

pub returns-then-lines-eq-START : goal.returns-then-lines-eq-START
returns-then-lines-eq-START c room =
    let w = c.text.ensures.wrote (omega (arith, room)) in
    rw (c.if-not-possible.false, eq-eqb c.args.lines.now.at start c.if-lines-eq-START.true) (writes_in (omega arith) w)

pub returns : goal.returns
returns c room =
    let v = c.text-2.ensures.wrote (omega (arith, room)) in
    let w = c.text-3.ensures.wrote (omega (arith, room, v.wrote.place, v.size)) in
    rw (c.if-not-possible.false, ne_eqb c.args.lines.now.at start (λ e. omega (arith, e))) (writes_in (omega arith) (writes_then v w))
