-- `class_of`: net and target are weights, so that nothing overflows. Assumes nothing.
use mathlib.Core.Path.{◌≡◌}
use Prim.Native.Nat.{◌≤◌}
use native.Mathlib.Omega.{arith}
use mir.Facts.{to_z-of_z}
use mir.Val.{SFits, to_z, of_z}
use mir.Syntax.{w64}
use lib.IntN.{ℤ, pos, nat_abs, ◌-ℤ◌, ◌+ℤ◌}
use Rattle.part.specs.Class.{above, class_of}
use Rattle.laws.proofs.Signed.{abs_sub, abs_add, sfits_abs, sub_fits, sub_back}
use Rattle.part.proofs.class.class_of.Goals as goal

-- a net and a target are weights, so their difference is small
module _ (net target : ℤ) (net_fits : SFits w64 net) (target_fits : SFits w64 target) (m : nat_abs net ≤ 999999) (k : nat_abs target ≤ 999999) where
  apart-is : to_z w64 (of_z w64 (to_z w64 (of_z w64 net) -ℤ to_z w64 (of_z w64 target))) ≡ net -ℤ target
  apart-is = sub_back net target net_fits target_fits (omega arith)

  above-fits : SFits w64 (above net target)
  above-fits = sfits_abs _ (omega (arith, abs_add (net -ℤ target) (pos 115), abs_sub net target))

  above-is : to_z w64 (of_z w64 (to_z w64 (of_z w64 (to_z w64 (of_z w64 net) -ℤ to_z w64 (of_z w64 target))) +ℤ pos 115)) ≡ above net target
  above-is = rw apart-is (to_z-of_z above-fits)

pub overflow_sub-above : goal.overflow_sub-above
overflow_sub-above c = sub_fits c.args.net c.args.target c.ranges.net c.ranges.target (omega (arith, c.requires.0, c.requires.1))

pub overflow_add-above : goal.overflow_add-above
overflow_add-above c =
    let a = c.args in
    rw (apart-is a.net a.target c.ranges.net c.ranges.target c.requires.0 c.requires.1)
    (above-fits a.net a.target c.ranges.net c.ranges.target c.requires.0 c.requires.1)

pub returns-then-above-lt0 : goal.returns-then-above-lt0
unfolding class_of
returns-then-above-lt0 c =
    let is = above-is c.args.net c.args.target c.ranges.net c.ranges.target c.requires.0 c.requires.1 in
    (simp (rw is at c.if-above-lt0.true), omega arith)

pub returns : goal.returns
unfolding class_of
returns c =
    let is = above-is c.args.net c.args.target c.ranges.net c.ranges.target c.requires.0 c.requires.1 in
    (simp (rw is at c.if-above-lt0.false) (omega (arith, rw is at c.size.ensures, c.min.ensures)), omega (arith, c.min.ensures))
