-- The root is the largest whole number that fits, and the only one; a bracket of width one has it at its lower end.
use mathlib.Core.Path.{◌≡◌}
use mathlib.Core.Logic.{⊎_elim}
use Prim.Native.Nat.{ℕ, zero, suc, ◌+◌, ◌*◌, ◌≤◌, ◌<◌}
use native.Mathlib.Nat.{mul-le-mul, mul-le-mul_right, le_trans, le_antisymm, le_of_suc-le-suc, lt_of_not-le, not-le_of_lt, lt_of_lt_of_le, eq-or-lt_of_le, eq-zero-or-pos, le-mul_of_pos_right}
use native.Mathlib.Numerals.{add-one}
use native.Mathlib.Omega.{arith}
use borrow.Author.Tests.{leb-true, leb-false}
use Rattle.laws.proofs.Tests.{if_ind}
use Rattle.spread.specs.Root.{Largest, fitting, root_from, root}

below : (k d x t : ℕ) → (suc k * suc k * d ≤ x → ⊥) → t * t * d ≤ x → t ≤ suc k → t ≤ k
below k d x t f g h = ⊎_elim (λ e. absurd (f (rw e at g))) (λ l. le_of_suc-le-suc l) (eq-or-lt_of_le h)

-- where nothing above k fits
from-largest : (k d x : ℕ) → ((t : ℕ) → t * t * d ≤ x → t ≤ k) → Largest d x (root_from k d x)
unfolding root_from
from-largest zero d x none = record { fits = omega arith; top = none }
from-largest (suc k) d x none =
    if_ind (Largest d x) (fitting d x (suc k)) (suc k) (root_from k d x)
    (λ e. record { fits = leb-true _ _ e; top = none })
    (λ e. from-largest k d x (λ t g. below k d x t (not-le_of_lt (leb-false _ _ e)) g (none t g)))

le_of_fits : (d x t : ℕ) → 0 < d → t * t * d ≤ x → t ≤ x
le_of_fits d x t p h =
    ⊎_elim (λ e. omega arith) (λ q. le_trans (le-mul_of_pos_right t q) (le_trans (le-mul_of_pos_right (t * t) p) h)) (eq-zero-or-pos t)

pub root-largest : (d x : ℕ) → 0 < d → Largest d x (root d x)
unfolding root
root-largest d x p = from-largest x d x (λ t. le_of_fits d x t p)

pub root-only : (d x s : ℕ) → 0 < d → Largest d x s → s ≡ root d x
root-only d x s p l = let r = root-largest d x p in le_antisymm (r.top s l.fits) (l.top (root d x) r.fits)

pub largest-between : (d x r h : ℕ) → h ≤ r + 1 → r * r * d ≤ x → x < h * h * d → Largest d x r
largest-between d x r h w low high = record {
  fits = low;
  top = λ t f. le_of_suc-le-suc (rw add-one at (lt_of_not-le (λ (g : r + 1 ≤ t).
      not-le_of_lt (lt_of_lt_of_le high (mul-le-mul_right d (mul-le-mul (le_trans w g) (le_trans w g)))) f)));
}
