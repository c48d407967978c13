-- `ticked` is one tick of the item in hand; the sum fits, and the last tick has its mean. Assumes nothing.
use borrow.Author.Tests.{lt-ltb, le-ltb, ne_eqb}
use mathlib.Core.Bool.{true}
use mathlib.Core.Path.{◌≡◌, sym, ◌∙◌}
use Prim.Native.Nat.{ℕ, ◌+◌, ◌≤◌, ◌<◌, ◌^◌}
use native.Mathlib.Omega.{arith}
use lib.IntN.{ℤ, nat_abs, ◌+ℤ◌}
use mir.Syntax.{w64}
use mir.Val.{SFits, to_z, of_z}
use mir.Facts.{to_z-of_z}
use Rattle.laws.proofs.Signed.{abs_add, sfits_abs, add_fits, add_back}
use Rattle.weight.specs.Mean.{rounded, mean_of}
use Rattle.weight.specs.Weight.{is_weight}
use Rattle.std.specs.Prelude.{Option, Some}
use Rattle.event.specs.declared.Setup.{Setup}
use Rattle.weight.proofs.Nearest.{rounded_le}
use Rattle.item.proofs.Keeps.{averages}
use Rattle.item.specs.Item.{ticked, item_fit}
use Rattle.item.specs.declared.Item.{Item}
use Rattle.item.specs.declared.Item.TheVariants.{Averaging}
use Rattle.item.proofs.Item.ticked.Goals as goal

-- the sum of an averaging item, and the code's sum of it and the gross
record Sum (sum gross : ℤ) (ta : ℕ) : Type 0 where
  some : 1 ≤ ta
  fits : SFits w64 sum
  room : nat_abs sum + nat_abs gross < 2 ^ 63
  is : to_z w64 (of_z w64 (to_z w64 (of_z w64 sum) +ℤ to_z w64 (of_z w64 gross))) ≡ sum +ℤ gross
  mean_fits : SFits w64 (rounded (sum +ℤ gross) ta)

sum_of : {i : Item} {k : ℕ} {sum gross : ℤ} (s : Setup) → i ≡ Averaging k sum → (item_fit i s ≡ true) × (is_weight gross ≡ true) → SFits w64 gross → Sum sum gross s.ta
sum_of {k = k} {sum = sum} {gross = gross} s e h g =
    let a = averages k sum gross s (rw e at h.0) h.1 in
    let r : nat_abs sum + nat_abs gross < 2 ^ 63 = omega (arith, a.sizes, a.time) in
    let f : SFits w64 sum = sfits_abs sum (omega (arith, r)) in
    let o : 1 ≤ s.ta = omega (arith, a.some, a.most) in
    record {
      some = o;
      fits = f;
      room = r;
      is = add_back sum gross f g r;
      mean_fits = sfits_abs _ (omega (arith, rounded_le (sum +ℤ gross) s.ta o, abs_add sum gross, r));
    }

-- on the last tick the mean is had
mean_is : {f : Option ℤ} {sum gross : ℤ} {ta : ℕ} → Sum sum gross ta
    → f ≡ mean_of (to_z w64 (of_z w64 (to_z w64 (of_z w64 sum) +ℤ to_z w64 (of_z w64 gross)))) ta
    → f ≡ Some (rounded (sum +ℤ gross) ta)
mean_is {ta = ta} p e = rw p.is at e ∙ simp (ne_eqb ta 0 (λ z. omega (arith, p.some, z)))

pub overflow_add-total : goal.overflow_add-total
overflow_add-total c = let p = sum_of c.args.setup c.in-Averaging.is c.requires c.ranges.gross in add_fits _ _ p.fits c.ranges.gross p.room

pub returns-then-k-gt1-2 : goal.returns-then-k-gt1-2
unfolding ticked
returns-then-k-gt1-2 c =
    let p = sum_of c.args.setup c.in-Averaging.is c.requires c.ranges.gross in
    rw p.is (simp (c.in-Averaging.is, lt-ltb _ _ c.if-k-gt1-2.true))

pub returns-in-Some : goal.returns-in-Some
unfolding ticked
returns-in-Some c =
    let p = sum_of c.args.setup c.in-Averaging.is c.requires c.ranges.gross in
    let v : c.in-Some.mean ≡ rounded (c.in-Averaging.sum +ℤ c.args.gross) c.args.setup.ta = cc (sym c.in-Some.is ∙ mean_is p c.mean_of.ensures) in
    rw (v, to_z-of_z p.mean_fits) (simp (c.in-Averaging.is, le-ltb _ _ c.if-k-gt1-2.false))

pub returns-in-None-mean_of : goal.returns-in-None-mean_of
returns-in-None-mean_of c =
    let e = mean_is (sum_of c.args.setup c.in-Averaging.is c.requires c.ranges.gross) c.mean_of.ensures in
    let z : ◌≡◌ {A = ℕ} 0 1 = cc (sym c.in-None-mean_of.is ∙ e) in absurd (omega arith)
