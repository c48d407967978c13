-- 01's times, in ticks.
use Rattle.std.specs.Prelude.{ℕ, ◌-◌, Bool, eqb, leb}

-- "waits of 1 to 9,999, other times 0 to 9,999"
abbrev pub longest : ℕ
longest = 9999

abbrev pub is_time : ℕ → Bool
is_time t = leb t longest

-- "falls by 1 if above 0"
abbrev pub fallen : ℕ → ℕ
fallen t = t - 1

-- it "reaches 0"
abbrev pub ended : ℕ → Bool
ended t = eqb t 0
