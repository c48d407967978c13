-- One sample within its margin: it is a number from the least to the largest within e of it, and each such number is one. Assumes nothing.
use mathlib.Core.Path.{◌≡◌}
use Prim.Native.Nat.{ℕ, ◌≤◌}
use native.Mathlib.Omega.{arith}
use lib.IntN.{ℤ, pos, neg_ℤ, nat_abs, ◌+ℤ◌}
use lib.Signed.{◌≤ℤ◌}
use borrow.Author.Tests.{leb-true, le-leb}
use Rattle.std.specs.Int.{int_min, int_max}
use Rattle.std.proofs.lemmas.Int.{ints, clamps}
use Rattle.weight.specs.Weight.{largest_weight}
use Rattle.possible.specs.Answer.{Close}
use Rattle.possible.specs.Bounds.{bottom, top, clipped}

clipped_is : (d x : ℤ) → clipped d x ≡ int_max bottom (int_min (x +ℤ d) top)
unfolding clipped
clipped_is d x = grind (arith, ints)

pub clipped-size : (d x : ℤ) → nat_abs (clipped d x) ≤ largest_weight
clipped-size d x = omega (arith, ints, clamps, clipped_is d x)

-- the least and the largest sample within e of x
abbrev pub lowest : ℕ → ℤ → ℤ
lowest e x = clipped (neg_ℤ (pos e)) x

abbrev pub highest : ℕ → ℤ → ℤ
highest e x = clipped (pos e) x

module _ (e : ℕ) (x : ℤ) where
  pub close_in : (y : ℤ) → Close e x y → (lowest e x ≤ℤ y) × (y ≤ℤ highest e x)
  close_in y c = omega (arith, ints, clamps, clipped_is (neg_ℤ (pos e)) x, clipped_is (pos e) x, c.near, leb-true _ _ c.weight)

  module _ (w : nat_abs x ≤ largest_weight) where
    pub low-high : lowest e x ≤ℤ highest e x
    low-high = omega (arith, ints, clamps, clipped_is (neg_ℤ (pos e)) x, clipped_is (pos e) x)

    pub is_close : (y : ℤ) → lowest e x ≤ℤ y → y ≤ℤ highest e x → Close e x y
    is_close y l h =
        let p = clipped_is (neg_ℤ (pos e)) x in
        let q = clipped_is (pos e) x in
        record { near = omega (arith, ints, clamps); weight = le-leb _ _ (omega (arith, ints, clamps)) }
