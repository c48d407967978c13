-- 01, "From sensor to sheet": weights are whole divisions, -999,999 to 999,999.
use Rattle.std.specs.Prelude.{ℕ, Bool, leb, ℤ, nat_abs}

-- the largest weight
abbrev pub largest_weight : ℕ
largest_weight = 999999

-- a weight: a whole number whose size is at most that
abbrev pub is_weight : ℤ → Bool
is_weight z = leb (nat_abs z) largest_weight
