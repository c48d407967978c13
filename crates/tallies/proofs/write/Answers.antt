-- `write` puts what is fit into code's part, and else leaves the memory. Assumes nothing.
use mathlib.Core.Path.{sym, ◌∙◌}
use Prim.Native.Nat.{◌+◌}
use native.Mathlib.Omega.{arith}
use lib.ListN.{length-take, length-drop}
use borrow.Rule.Slice.PartMut.{Post-is}
use Rattle.tallies.specs.Memory.{with_part}
use Rattle.tallies.proofs.Starts.{starts-not, starts-there, start_is, start-room}
use Rattle.tallies.proofs.write.Goals as goal

pub returns-in_default : goal.returns-in_default
returns-in_default c = rw (starts-not c.args.tallies.now c.args.code (sym c.start_of.ensures ∙ c.in_default.is))

pub put-requires : goal.put-requires
put-requires c =
    let a = c.args in
    let room = start-room a.tallies.now a.code c.in-Some.at (sym c.start_of.ensures ∙ c.in-Some.is) in
    (simp (length-take, length-drop) (omega (arith, room)), sym c.fit.ensures ∙ c.if-fit.true)

pub returns-then-fit : goal.returns-then-fit
unfolding with_part
returns-then-fit c =
    let a = c.args in
    let at = c.in-Some.at in
    let e = sym c.start_of.ensures ∙ c.in-Some.is in
    rw (starts-there a.tallies.now a.code at e, sym c.fit.ensures ∙ c.if-fit.true, Post-is at (at + 34) a.tallies.now (omega arith), c.put.ensures, start_is a.tallies.now a.code at e)

pub returns-else-fit : goal.returns-else-fit
returns-else-fit c =
    let a = c.args in
    let e = sym c.start_of.ensures ∙ c.in-Some.is in
    rw (starts-there a.tallies.now a.code c.in-Some.at e, sym c.fit.ensures ∙ c.if-fit.false)
