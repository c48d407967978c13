-- 02, T-02 "Bench mode": what is kept of the running ticks, what arms the line, and when a box lies still on the plate.
use Rattle.std.specs.Prelude.{ℕ, Bool, ◌&&◌, not, List, [], ◌∷◌, eqb, leb, ℤ, pos, ◌-ℤ◌, length, take}
use Rattle.std.specs.Int.{int_max, int_min}
use Rattle.std.specs.Int.Signed.{le_z, lt_z}
use Rattle.laws.specs.Choice.{when◌then◌else◌}
use Rattle.lists.specs.Each.{all_of, folded}
use Rattle.lists.specs.Places.{in_places}
use Rattle.weight.specs.Weight.{is_weight}
use Rattle.bench.specs.declared.Bench.{Bench}

-- "the last 10 running ticks"
abbrev pub last_ticks : ℕ
last_ticks = 10

-- "differ by at most 2 divisions"
abbrev pub most_apart : ℤ
most_apart = pos 2

-- the grosses that are kept, the newest first. They stand in the first n of ten places; the places behind them hold 0 and are not read
unfoldable pub grosses_of : Bench → List ℤ
grosses_of b = take b.n b.grosses

-- these grosses are kept; any number but 0 says that the line is armed
unfoldable pub keeping : ℕ → List ℤ → Bench
keeping armed l = record { armed = armed; grosses = in_places last_ticks (pos 0) l; n = length l }

-- a fresh line is not armed, and no gross is kept
abbrev pub fresh_bench : Bench
fresh_bench = keeping 0 []

abbrev pub with_armed : Bench → ℕ → Bench
with_armed b armed = record { armed = armed; grosses = b.grosses; n = b.n }

-- an accepted run: "A run accepted from stopped arms it"; the grosses are those "since the last accepted run"
unfoldable pub begun : Bench → Bool → Bench
begun b stopped = keeping (when stopped then 1 else b.armed) []

-- one gross more, of which "the last 10" are kept
unfoldable pub pushed : Bench → ℤ → Bench
pushed b gross = keeping b.armed (take last_ticks (gross ∷ grosses_of b))

-- a running tick is one of the last, and one "with gross ≤ nearzero" arms
unfoldable pub ticked_on : Bench → ℤ → ℤ → Bench
ticked_on b gross nearzero =
    when le_z gross nearzero then with_armed (pushed b gross) 1 else pushed b gross

-- the largest and the smallest of a list
abbrev pub largest_of : List ℤ → ℤ
largest_of [] = pos 0
largest_of (x ∷ l) = folded int_max x l

abbrev pub smallest_of : List ℤ → ℤ
smallest_of [] = pos 0
smallest_of (x ∷ l) = folded int_min x l

-- "A line is fit only if the grosses kept for this are at most 10, all weights."
unfoldable pub bench_fit : Bench → Bool
bench_fit b = leb b.n last_ticks && all_of is_weight (grosses_of b)

-- ten weights "differ by at most 2 divisions": the largest less the smallest. "Fewer than 10 such ticks detect nothing."
unfoldable pub steady : Bench → Bool
steady b =
    eqb b.n last_ticks && bench_fit b
    && le_z (largest_of (grosses_of b) -ℤ smallest_of (grosses_of b)) most_apart

-- "an armed line .. detects a box when gross > nearzero and the grosses of the last 10 running ticks .. differ by at most 2 divisions"
unfoldable pub detects : Bench → ℤ → ℤ → Bool
detects b gross nearzero = not (eqb b.armed 0) && lt_z nearzero gross && steady b

-- "Detection disarms."
unfoldable pub disarmed : Bench → Bench
disarmed b = with_armed b 0
