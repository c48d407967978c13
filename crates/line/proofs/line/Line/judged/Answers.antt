-- `judged` equals its definition `judged`. Assumes nothing.
use mathlib.Core.Path.{◌≡◌}
use mathlib.Core.Bool.{true}
use borrow.Author.Tests.{leb-true}
use Prim.Native.Nat.{◌+◌, ◌<◌, ◌^◌}
use native.Mathlib.Omega.{arith}
use lib.IntN.{ℤ, pos, nat_abs}
use lib.Signed.{le_z}
use mir.Val.{SFits}
use mir.Syntax.{w64}
use Rattle.settings.specs.declared.Settings.{Settings}
use Rattle.settings.specs.Settings.{record_fit}
use Rattle.settings.proofs.Facts.{loads}
use Rattle.laws.proofs.Signed.{le_was, sub_fits, sub_back}
use Rattle.laws.proofs.Tests.{both}
use Rattle.weight.specs.Weight.{is_weight}
use Rattle.line.specs.Verdict.{judged}
use Rattle.line.proofs.line.Line.judged.Goals as goal

-- a mean and a tare are weights
sizes : (a : Settings) (m : ℤ) → record_fit a ≡ true → is_weight m ≡ true → nat_abs m + nat_abs a.tare < 2 ^ 63
sizes a m r w =
    let t = both (le_z (pos 0) a.tare) (is_weight a.tare) (loads a r).tare in
    omega (arith, leb-true (nat_abs m) 999999 w, leb-true (nat_abs a.tare) 999999 t.1)

pub overflow_sub-net : goal.overflow_sub-net
overflow_sub-net c =
    let tare : SFits w64 c.args.active.tare = assumption in
    sub_fits c.args.m c.args.active.tare c.ranges.m tare (sizes c.args.active c.args.m c.requires.0 c.requires.1)

pub returns : goal.returns
unfolding judged
returns c =
    let nearzero : SFits w64 c.args.active.nearzero = assumption in
    let tare : SFits w64 c.args.active.tare = assumption in
    let net = sub_back c.args.m c.args.active.tare c.ranges.m tare (sizes c.args.active c.args.m c.requires.0 c.requires.1) in
    simp (rw net at c.verdict_of.ensures, le_was c.ranges.m nearzero c.if-m-active.false)
