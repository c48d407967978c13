-- Signed numbers. A goal states a local's number by its bits, as `to_z (of_z z)`; these laws bring it back to z. Sizes are
-- bounded by `nat_abs`, which omega reads. Assumes nothing.
use mathlib.Core.Bool.{Bool, true, false, cond}
use mathlib.Core.Path.{◌≡◌, refl, sym, subst, ◌∙◌}
use Prim.Native.Nat.{ℕ, zero, suc, ◌+◌, ◌-◌, ◌≤◌, ◌<◌, ◌^◌, zero-le}
use native.Mathlib.Omega.{arith}
use native.Mathlib.Nat.{lt_of_le_of_lt}
use lib.Dec.{T, ltb}
use lib.IntN.{ℤ, pos, negsuc, neg_ℤ, nat_abs, ◌+ℤ◌, ◌-ℤ◌}
use lib.Signed.{le_z, mag}
use borrow.Author.Tests.{le-leb, ltb-true}
use mir.Syntax.{w64}
use mir.Val.{SFits, to_z, of_z}
use mir.Facts.{to_z-of_z}

-- a number that fits is read back from its bits: of a call's result `back c.f.result c.f.ok`
pub back : (z : ℤ) → mag z < 2 ^ 63 → to_z w64 (of_z w64 z) ≡ z
back z h = to_z-of_z {w = w64} {z = z} (record { sfits = h })

pub to_z_small : (n : ℕ) → n < 2 ^ 63 → to_z w64 n ≡ pos n
to_z_small n h = back (pos n) h

-- a test of two locals
module _ {a b : ℤ} {t : Bool} (fa : SFits w64 a) (fb : SFits w64 b) where
  pub le_was : le_z (to_z w64 (of_z w64 a)) (to_z w64 (of_z w64 b)) ≡ t → le_z a b ≡ t
  le_was h = rw (to_z-of_z fa, to_z-of_z fb) at h

-- what a test against 0 tells
pub not_neg : (a : ℕ) → le_z (pos 0) (pos a) ≡ false → ⊥
not_neg a h = let z : ◌≡◌ {A = Bool} true false = sym (le-leb 0 a zero-le) ∙ h in subst T z tt

pub pos_abs : (x : ℤ) → le_z (pos 0) x ≡ true → x ≡ pos (nat_abs x)
pos_abs (pos a) h = refl
pos_abs (negsuc a) h = absurd (subst T (sym h) tt)

-- sizes
difference : (a b : ℕ) (t : Bool) → ltb a b ≡ t → nat_abs (cond t (negsuc (b - suc a)) (pos (a - b))) ≤ a + b
difference a b true h = omega (arith, ltb-true a b h)
difference a b false h = omega arith

pub abs_add : (a b : ℤ) → nat_abs (a +ℤ b) ≤ nat_abs a + nat_abs b
abs_add (pos a) (pos b) = omega arith
abs_add (pos a) (negsuc b) = difference a (suc b) (ltb a (suc b)) refl
abs_add (negsuc a) (pos b) = let h = difference b (suc a) (ltb b (suc a)) refl in omega (arith, h)
abs_add (negsuc a) (negsuc b) = omega arith

pub abs_negℤ : (b : ℤ) → nat_abs (neg_ℤ b) ≡ nat_abs b
abs_negℤ (pos zero) = refl
abs_negℤ (pos (suc n)) = refl
abs_negℤ (negsuc n) = refl

pub abs_sub : (a b : ℤ) → nat_abs (a -ℤ b) ≤ nat_abs a + nat_abs b
abs_sub a b = omega (arith, abs_add a (neg_ℤ b), abs_negℤ b)

-- what fits 64 bits
pub sfits_abs : (z : ℤ) → nat_abs z < 2 ^ 63 → SFits w64 z
sfits_abs (pos a) h = record { sfits = h }
sfits_abs (negsuc a) h = record { sfits = omega arith }

pub neg_fits : (q : ℕ) → q ≤ 2 ^ 63 → SFits w64 (neg_ℤ (pos q))
neg_fits zero h = record { sfits = omega arith }
neg_fits (suc n) h = record { sfits = h }

module _ (a b : ℤ) (fa : SFits w64 a) (fb : SFits w64 b) (h : nat_abs a + nat_abs b < 2 ^ 63) where
  pub add_fits : SFits w64 (to_z w64 (of_z w64 a) +ℤ to_z w64 (of_z w64 b))
  add_fits = rw (to_z-of_z fa, to_z-of_z fb) (sfits_abs (a +ℤ b) (lt_of_le_of_lt (abs_add a b) h))

  pub add_back : to_z w64 (of_z w64 (to_z w64 (of_z w64 a) +ℤ to_z w64 (of_z w64 b))) ≡ a +ℤ b
  add_back = rw (to_z-of_z fa, to_z-of_z fb) (to_z-of_z (sfits_abs (a +ℤ b) (lt_of_le_of_lt (abs_add a b) h)))

  pub sub_fits : SFits w64 (to_z w64 (of_z w64 a) -ℤ to_z w64 (of_z w64 b))
  sub_fits = rw (to_z-of_z fa, to_z-of_z fb) (sfits_abs (a -ℤ b) (lt_of_le_of_lt (abs_sub a b) h))

  pub sub_back : to_z w64 (of_z w64 (to_z w64 (of_z w64 a) -ℤ to_z w64 (of_z w64 b))) ≡ a -ℤ b
  sub_back = rw (to_z-of_z fa, to_z-of_z fb) (to_z-of_z (sfits_abs (a -ℤ b) (lt_of_le_of_lt (abs_sub a b) h)))
