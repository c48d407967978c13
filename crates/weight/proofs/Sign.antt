-- A number with the sign of another. Assumes nothing.
use mathlib.Core.Path.{◌≡◌, refl, sym, subst}
use mathlib.Core.Bool.{true, false}
use Prim.Native.Nat.{ℕ}
use lib.Dec.{T}
use lib.IntN.{ℤ, pos, negsuc, neg_ℤ, nat_abs}
use lib.Signed.{le_z}
use Rattle.laws.proofs.Signed.{not_neg, abs_negℤ}
use Rattle.weight.specs.Mean.{with_sign}

pub as_pos : (z : ℤ) (q : ℕ) → le_z (pos 0) z ≡ true → with_sign z q ≡ pos q
as_pos (pos a) q h = refl
as_pos (negsuc a) q h = absurd (subst T (sym h) tt)

pub as_neg : (z : ℤ) (q : ℕ) → le_z (pos 0) z ≡ false → with_sign z q ≡ neg_ℤ (pos q)
as_neg (pos a) q h = absurd (not_neg a h)
as_neg (negsuc a) q h = refl

pub abs_with_sign : (z : ℤ) (q : ℕ) → nat_abs (with_sign z q) ≡ q
abs_with_sign (pos a) q = refl
abs_with_sign (negsuc a) q = abs_negℤ (pos q)
