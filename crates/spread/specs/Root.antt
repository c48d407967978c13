-- 01, "The sheet's figures": "the largest whole s with" s²·d ≤ x.
use Rattle.std.specs.Prelude.{Bool, ℕ, zero, suc, ◌*◌, ◌≤◌, leb}
use Rattle.laws.specs.Choice.{when◌then◌else◌}

-- s is one with it, and no other is larger
pub record Largest (d x s : ℕ) : Type 0 where
  pub fits : s * s * d ≤ x
  pub top : (t : ℕ) → t * t * d ≤ x → t ≤ s

-- the test of one s
abbrev pub fitting : (d x s : ℕ) → Bool
fitting d x s = leb (s * s * d) x

-- the first of k, k - 1, .. 0 with it
unfoldable pub root_from : (k d x : ℕ) → ℕ
root_from zero d x = zero
root_from (suc k) d x = when fitting d x (suc k) then suc k else root_from k d x

-- the largest, as a function: for d above 0 no s above x will do. That it is `Largest`, and the only one, `RootIsTheLargest` claims
unfoldable pub root : (d x : ℕ) → ℕ
root d x = root_from x d x
