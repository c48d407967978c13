-- The spreads of a tally in tenths of a division, by request T-06 of 02, and which tally is fit for a report.
use Rattle.std.specs.Prelude.{Bool, ◌&&◌, ℕ, ◌-◌, ◌*◌, leb, ltb, nat_abs, Option, Some, None}
use Rattle.laws.specs.Choice.{when◌then◌else◌}
use Rattle.tally.specs.Tally.{tally_fit}
use Rattle.tally.specs.declared.tally.Tally.{Tally}
use Rattle.spread.specs.Root.{root}

-- 01, "Refusal numbers": "and for a report S² ≤ n·Q"
unfoldable pub report_fit : Tally → Bool
report_fit t = tally_fit t && leb (nat_abs t.sum * nat_abs t.sum) (t.n * t.squares)

-- n·Q - S²
abbrev pub apart_of : Tally → ℕ
apart_of t = t.n * t.squares - nat_abs t.sum * nat_abs t.sum

-- T-06: "100·(n·Q - S²)", since its s is in tenths
abbrev pub times : ℕ
times = 100

-- T-06, sd and sdp in one: "the largest whole s with" s²·n·m ≤ 100·(n·Q - S²). None where m is 0, and of an unfit tally, which a report refuses
unfoldable pub spread_of : Tally → ℕ → Option ℕ
spread_of t m = when ltb 0 m && report_fit t then Some (root (t.n * m) (times * apart_of t)) else None

-- T-06: "the largest whole s with s²·n·(n-1) ≤ 100·(n·Q - S²)"; 01, "The sheet's figures": "none below n = 2", where n - 1 is 0
abbrev pub sd_of : Tally → Option ℕ
sd_of t = spread_of t (t.n - 1)

-- T-06: "and s²·n² for sdp"; 01, "The sheet's figures": "for n = 0" it is none
abbrev pub sdp_of : Tally → Option ℕ
sdp_of t = spread_of t t.n
