-- The theorem on the definitions: a spread is what T-06 says, and where it is none.
use Rattle.std.specs.Prelude.{◌≡◌, true, ℕ, ◌-◌, ◌*◌, ◌≤◌, ◌<◌, Option, Some, None}
use Rattle.tally.specs.declared.tally.Tally.{Tally}
use Rattle.spread.specs.Root.{Largest, root}
use Rattle.spread.specs.Figures.{report_fit, apart_of, times, sd_of, sdp_of}

-- the spread is the largest whole s with s²·d ≤ x, and no other is
pub record TheLargest (spread : Option ℕ) (d x : ℕ) : Type 0 where
  pub s : ℕ
  pub is : spread ≡ Some s
  pub largest : Largest d x s
  pub only : (r : ℕ) → Largest d x r → r ≡ s

pub record RootIsTheLargest : Type 0 where
  -- "The sheet's figures": "the largest whole s", of which there is one
  pub largest : (d x : ℕ) → 0 < d → Largest d x (root d x)
  pub only : (d x s : ℕ) → 0 < d → Largest d x s → s ≡ root d x
  -- T-06: "sd and sdp become the largest whole s with s²·n·(n-1) ≤ 100·(n·Q - S²), and s²·n² for sdp"
  pub sd : (t : Tally) → report_fit t ≡ true → 2 ≤ t.n → TheLargest (sd_of t) (t.n * (t.n - 1)) (times * apart_of t)
  pub sdp : (t : Tally) → report_fit t ≡ true → 1 ≤ t.n → TheLargest (sdp_of t) (t.n * t.n) (times * apart_of t)
  -- "The sheet's figures": "sd is none below n = 2", sdp "for n = 0"
  pub sd-none : (t : Tally) → t.n < 2 → sd_of t ≡ None
  pub sdp-none : (t : Tally) → t.n ≡ 0 → sdp_of t ≡ None
