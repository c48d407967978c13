-- S² ≤ n·Q, which a report asks of a tally, is kept by one more weight; all numbers are sizes.
use mathlib.Core.Path.{◌≡◌}
use mathlib.Core.Logic.{⊎_elim}
use Prim.Native.Nat.{ℕ, ◌+◌, ◌*◌, ◌≤◌}
use native.Mathlib.Nat.{le_dest, le_trans, mul-le-mul, le_of_mul-le-mul_left, le-mul_of_pos_right, eq-zero-or-pos}
use native.Mathlib.Decide.{dec_le}
use native.Mathlib.Omega.{arith}

twice_le : (a b : ℕ) → 2 * a * b ≤ a * a + b * b
twice_le a b = elim (dec_le a b) [ yes h ↦ up a b h | no f ↦ omega (arith, up b a (omega arith)) ]
  where
    up : (a b : ℕ) → a ≤ b → 2 * a * b ≤ a * a + b * b
    up a b h = rw (← (le_dest h).1) (omega arith)

-- the cross term of the new square
cross_le : (n q s w : ℕ) → s * s ≤ n * q → 2 * s * w ≤ q + n * (w * w)
cross_le n q s w h =
    ⊎_elim
    (λ (e : n ≡ 0). let g : s * s ≤ 0 * q = rw e at h in
    ⊎_elim (λ (z : s ≡ 0). rw z (omega arith)) (λ p. absurd (omega (arith, le-mul_of_pos_right s p))) (eq-zero-or-pos s))
    (λ p. le_of_mul-le-mul_left {k = n} (omega (arith, twice_le s (n * w))) p)
    (eq-zero-or-pos n)

pub one_more_lem : (n q s w t : ℕ) → s * s ≤ n * q → t ≤ s + w → t * t ≤ (n + 1) * (q + w * w)
one_more_lem n q s w t h l = le_trans (mul-le-mul l l) (omega (arith, cross_le n q s w h))
