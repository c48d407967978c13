-- What a tally that is fit for a report tells, its spread and when that is none, and that no root reaches the bracket's first end.
use mathlib.Core.Path.{◌≡◌}
use mathlib.Core.Bool.{true}
use Prim.Native.Nat.{ℕ, ◌+◌, ◌-◌, ◌*◌, ◌≤◌, ◌<◌}
use native.Mathlib.Nat.{mul-le-mul_left, mul-pos}
use native.Mathlib.Omega.{arith}
use lib.Dec.{leb}
use lib.IntN.{nat_abs}
use borrow.Author.Tests.{leb-true, lt-ltb, le-ltb}
use Rattle.laws.proofs.Tests.{both}
use Rattle.tally.specs.Tally.{tally_fit}
use Rattle.tally.specs.declared.tally.Tally.{Tally}
use Rattle.tally.proofs.Facts.{FitTally, fit_tells}
use Rattle.spread.specs.Root.{root}
use Rattle.spread.specs.Figures.{report_fit, apart_of, times, spread_of, sd_of, sdp_of}
use Rattle.spread.specs.Theorem.{TheLargest}
use Rattle.std.specs.Prelude.{None}
use Rattle.spread.proofs.Roots.{root-largest, root-only}

pub record Fit (t : Tally) : Type 0 where
  pub fit : tally_fit t ≡ true
  pub tally : FitTally t
  pub apart : nat_abs t.sum * nat_abs t.sum ≤ t.n * t.squares

pub fit-facts : (t : Tally) → report_fit t ≡ true → Fit t
unfolding report_fit
fit-facts t e =
    let a = both (tally_fit t) (leb (nat_abs t.sum * nat_abs t.sum) (t.n * t.squares)) e in
    record { fit = a.0; tally = fit_tells t a.0; apart = leb-true _ _ a.1 }

-- n ≤ 2·m and q ≤ n·10^12 leave room for `times` up to 112
pub below-first-end : (n m q s : ℕ) → 0 < m → m ≤ n → n ≤ m + 1 → q ≤ n * 1000000000000 → times * (n * q - s * s) < 15000000 * 15000000 * (n * m)
below-first-end n m q s a b f e =
    let g : q ≤ m * 2000000000000 = omega arith in
    let p : 0 < n * m = mul-pos {m = n} {n = m} (omega arith) a in
    omega (arith, mul-le-mul_left n g)

pub spread-largest : (t : Tally) (m : ℕ) → report_fit t ≡ true → 0 < t.n → 0 < m → TheLargest (spread_of t m) (t.n * m) (times * apart_of t)
unfolding spread_of
spread-largest t m f g h =
    let p = mul-pos {m = t.n} {n = m} g h in
    record { s = root (t.n * m) (times * apart_of t); is = rw (lt-ltb 0 m h, f); largest = root-largest _ _ p; only = λ r. root-only _ _ r p }

pub spread_none : (t : Tally) (m : ℕ) → m ≤ 0 → spread_of t m ≡ None
unfolding spread_of
spread_none t m h = rw (le-ltb 0 m h)

pub sd-none : (t : Tally) → t.n < 2 → sd_of t ≡ None
sd-none t h = spread_none t (t.n - 1) (omega arith)

pub sdp-none : (t : Tally) → t.n ≡ 0 → sdp_of t ≡ None
sdp-none t h = spread_none t t.n (omega arith)
