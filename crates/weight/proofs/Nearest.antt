-- The rounded quotient: how far it is from the quotient, and that it is no larger than what is divided. Assumes nothing.
use Prim.Native.Nat.{ℕ, ◌+◌, ◌*◌, ◌/◌, ◌%◌, ◌≤◌, ◌<◌}
use native.Mathlib.Decide.{dec_le}
use native.Mathlib.Nat.{div-add-mod', mod-lt, le-mul_of_pos_right, lt_of_not-le, div-le_self, mul-le-mul_right}
use native.Mathlib.Omega.{arith}
use lib.IntN.{ℤ, nat_abs}
use borrow.Author.Tests.{le-leb, lt-leb}
use Rattle.weight.specs.Mean.{nearest, rounded}
use Rattle.weight.proofs.Sign.{abs_with_sign}

-- one more than the quotient, where half or more is left
pub one_more_le : (m n : ℕ) → 0 < n → n ≤ 2 * (m % n) → m / n + 1 ≤ m
one_more_le m n p h = omega (arith, div-add-mod' m n, le-mul_of_pos_right (m / n) p)

pub nearest_le : (m n : ℕ) → 0 < n → nearest m n ≤ m
unfolding nearest
nearest_le m n p =
    elim (dec_le n (2 * (m % n))) [
      | yes h ↦ rw (le-leb _ _ h) (one_more_le m n p h)
      | no f ↦ rw (lt-leb _ _ (lt_of_not-le f)) (div-le_self m n)
    ]

-- it is at most half of n from m, at half above it
pub record Near (m n q : ℕ) : Type 0 where
  pub above : 2 * m < 2 * (q * n) + n
  pub below : 2 * (q * n) ≤ 2 * m + n

pub nearest-near : (m n : ℕ) → 0 < n → Near m n (nearest m n)
unfolding nearest
nearest-near m n p =
    elim (dec_le n (2 * (m % n))) [
      | yes h ↦ rw (le-leb _ _ h) (record { above = omega (arith, div-add-mod' m n, mod-lt m p); below = omega (arith, div-add-mod' m n) })
      | no f ↦ rw (lt-leb _ _ (lt_of_not-le f)) (record { above = omega (arith, div-add-mod' m n); below = omega (arith, div-add-mod' m n) })
    ]

-- a rounded mean of a sum is no larger than the sum
pub rounded_le : (s : ℤ) (n : ℕ) → 0 < n → nat_abs (rounded s n) ≤ nat_abs s
unfolding rounded
rounded_le s n p = omega (arith, abs_with_sign s (nearest (nat_abs s) n), nearest_le (nat_abs s) n p)

-- and within the bound of the numbers that were summed
pub rounded-within : (s : ℤ) (n k : ℕ) → 0 < n → nat_abs s ≤ k * n → nat_abs (rounded s n) ≤ k
unfolding rounded
rounded-within s n k p h = rw (abs_with_sign s (nearest (nat_abs s) n)) (bounded (nearest (nat_abs s) n) (nearest-near (nat_abs s) n p))
  where
    bounded : (q : ℕ) → Near (nat_abs s) n q → q ≤ k
    bounded q near = elim (dec_le q k) [ yes l ↦ l | no f ↦ absurd (omega (arith, mul-le-mul_right n (lt_of_not-le f), near.below)) ]
