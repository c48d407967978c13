-- What the private steps ask and give. Any number may stand in a tally's fields: sums of counts and products of n do not overflow
-- once each of them is small.
use Rattle.std.specs.Prelude.{◌*◌, ◌≤◌, Bool, true, ◌&&◌, leb, eqb, nat_abs}
use Rattle.laws.specs.Choice.{when◌then◌else◌}
use Rattle.weight.specs.Weight.{largest_weight}
use Rattle.tally.specs.Tally.{tally_limit, largest_square}
use Rattle.tally.specs.declared.counts.Counts.{Counts}
use Rattle.tally.specs.declared.tally.Tally.{Tally}

-- each count is small
abbrev pub small_counts : Counts → Bool
small_counts c =
    leb c.lolo tally_limit && leb c.lo tally_limit && leb c.ok tally_limit && leb c.hi tally_limit && leb c.hihi tally_limit
    && leb c.foreign tally_limit && leb c.double tally_limit && leb c.crash tally_limit

-- the sums are no larger than n weights make them
pub record Bounded (t : Tally) : Type 0 where
  pub n : t.n ≤ tally_limit
  pub sum : nat_abs t.sum ≤ t.n * largest_weight
  pub squares : t.squares ≤ t.n * largest_square

-- "0 at n = 0"
abbrev pub none_is_zero : Tally → Bool
none_is_zero t = when eqb t.n 0 then eqb (nat_abs t.largest) 0 && eqb (nat_abs t.smallest) 0 else true
