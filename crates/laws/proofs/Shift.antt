-- Whole numbers of a size up to n as natural numbers, n higher, so that `omega` can go on with them. Assumes nothing.
use mathlib.Core.Path.{◌≡◌, refl}
use mathlib.Core.Bool.{Bool, true, false, cond}
use Prim.Native.Nat.{ℕ, zero, suc, ◌+◌, ◌-◌, ◌≤◌, ◌<◌}
use native.Mathlib.Decide.{dec_le}
use native.Mathlib.Nat.{lt_of_not-le}
use native.Mathlib.Omega.{arith}
use lib.Dec.{leb, ltb}
use lib.IntN.{ℤ, pos, negsuc, neg_ℤ, nat_abs, ◌+ℤ◌, ◌-ℤ◌}
use lib.Signed.{lt_z, le_z}
use borrow.Author.Tests.{ltb-true, ltb-false, le-leb, lt-leb, lt-ltb, le-ltb}

module _ (n : ℕ) where
  abbrev pub up : ℤ → ℕ
  up (pos a) = n + a
  up (negsuc a) = n - suc a

  -- ---- tests

  le_from : (x y : ℤ) → nat_abs x ≤ n → nat_abs y ≤ n → up x ≤ up y → le_z x y ≡ true
  le_from (pos a) (pos b) s t h = le-leb a b (omega arith)
  le_from (pos a) (negsuc b) s t h = absurd (omega arith)
  le_from (negsuc a) (pos b) s t h = refl
  le_from (negsuc a) (negsuc b) s t h = le-leb b a (omega arith)

  not_le_from : (x y : ℤ) → up y < up x → le_z x y ≡ false
  not_le_from (pos a) (pos b) h = lt-leb a b (omega arith)
  not_le_from (pos a) (negsuc b) h = refl
  not_le_from (negsuc a) (pos b) h = absurd (omega arith)
  not_le_from (negsuc a) (negsuc b) h = lt-leb b a (omega arith)

  pub le_up : (x y : ℤ) → nat_abs x ≤ n → nat_abs y ≤ n → le_z x y ≡ leb (up x) (up y)
  le_up x y s t =
      elim (dec_le (up x) (up y)) [
        | yes h ↦ rw (le-leb _ _ h) (le_from x y s t h)
        | no f ↦ rw (lt-leb _ _ (lt_of_not-le f)) (not_le_from x y (lt_of_not-le f))
      ]

  -- below 0
  pub neg_up : (x : ℤ) → nat_abs x ≤ n → lt_z x (pos 0) ≡ ltb (up x) n
  neg_up (pos a) s = rw (le-ltb (n + a) n (omega arith)) (le-ltb a 0 (omega arith))
  neg_up (negsuc a) s = rw (lt-ltb (n - suc a) n (omega arith)) refl

  -- ---- sums

  minus : (a b : ℕ) (t : Bool) → ltb a b ≡ t → a ≤ n → b ≤ n → up (cond t (negsuc (b - suc a)) (pos (a - b))) + b ≡ n + a
  minus a b true h p q = omega (arith, ltb-true a b h)
  minus a b false h p q = omega (arith, ltb-false a b h)

  pub up_add : (x y : ℤ) → nat_abs x + nat_abs y ≤ n → up (x +ℤ y) + n ≡ up x + up y
  up_add (pos a) (pos b) s = omega arith
  up_add (pos a) (negsuc b) s = omega (arith, minus a (suc b) (ltb a (suc b)) refl (omega arith) (omega arith))
  up_add (negsuc a) (pos b) s = omega (arith, minus b (suc a) (ltb b (suc a)) refl (omega arith) (omega arith))
  up_add (negsuc a) (negsuc b) s = omega arith

  up_neg : (y : ℤ) → nat_abs y ≤ n → up (neg_ℤ y) + up y ≡ n + n
  up_neg (pos zero) s = omega arith
  up_neg (pos (suc a)) s = omega arith
  up_neg (negsuc a) s = omega arith

  abs_neg : (y : ℤ) → nat_abs (neg_ℤ y) ≡ nat_abs y
  abs_neg (pos zero) = refl
  abs_neg (pos (suc a)) = refl
  abs_neg (negsuc a) = refl

  pub up_sub : (x y : ℤ) → nat_abs x + nat_abs y ≤ n → up (x -ℤ y) + up y ≡ up x + n
  up_sub x y s = omega (arith, up_add x (neg_ℤ y) (omega (arith, abs_neg y)), up_neg y (omega arith), abs_neg y)

  -- a number at least 0 is its size
  pub size-up : (x : ℤ) → n ≤ up x → nat_abs x ≤ n → up x ≡ n + nat_abs x
  size-up (pos a) h s = omega arith
  size-up (negsuc a) h s = absurd (omega arith)
