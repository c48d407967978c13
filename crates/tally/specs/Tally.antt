-- 01, "A code's tally: eight counts; for graded verdicts also number n, sum S, sum of squares Q, largest, smallest".
use Rattle.std.specs.Prelude.{ℕ, ◌+◌, ◌*◌, Bool, true, ◌&&◌, leb, ltb, eqb, ℤ, pos, nat_abs, ◌+ℤ◌, Option, Some, None}
use Rattle.std.specs.Int.{from_bool}
use Rattle.std.specs.Int.Signed.{lt_z}
use Rattle.laws.specs.Choice.{when◌then◌else◌}
use Rattle.weight.specs.Weight.{largest_weight, is_weight}
use Rattle.verdict.specs.Verdict.{lolo, lo, ok, hi, hihi, foreign, two_on, crash, is_verdict, is_grade}
use Rattle.tally.specs.declared.counts.Counts.{Counts}
use Rattle.tally.specs.declared.tally.Tally.{Tally}

-- "at most 999,999 verdicts"
abbrev pub tally_limit : ℕ
tally_limit = 999999

-- "10^12", more than the square of any weight
abbrev pub largest_square : ℕ
largest_square = 1000000000000

-- the five grade counts together
abbrev pub graded_in : Counts → ℕ
graded_in c = c.lolo + c.lo + c.ok + c.hi + c.hihi

-- "Total is all eight counts"
abbrev pub counted_in : Counts → ℕ
counted_in c = graded_in c + c.foreign + c.double + c.crash

abbrev pub graded : Tally → ℕ
graded t = graded_in t.counts

abbrev pub total : Tally → ℕ
total t = counted_in t.counts

-- "all zeros is the empty tally"
abbrev pub no_counts : Counts
no_counts = record { lolo = 0; lo = 0; ok = 0; hi = 0; hihi = 0; foreign = 0; double = 0; crash = 0 }

abbrev pub empty_tally : Tally
empty_tally = record { counts = no_counts; n = 0; sum = pos 0; squares = 0; largest = pos 0; smallest = pos 0 }

-- "A tally is fit with at most 999,999 verdicts, n the sum of the five grade counts, |S| ≤ n × 999,999, Q from 0 to n × 10^12, largest and smallest weights (0 at n = 0)"
unfoldable pub tally_fit : Tally → Bool
tally_fit t =
    leb (total t) tally_limit
    && eqb t.n (graded t)
    && leb (nat_abs t.sum) (t.n * largest_weight)
    && leb t.squares (t.n * largest_square)
    && is_weight t.largest && is_weight t.smallest
    && (when eqb t.n 0 then eqb (nat_abs t.largest) 0 && eqb (nat_abs t.smallest) 0 else true)

-- "At 999,999 verdicts a further one is given but not tallied."
unfoldable pub has_room : Tally → Bool
has_room t = ltb (total t) tally_limit

-- 1 for verdict v itself, 0 for another
abbrev pub one : ℕ → ℕ → ℕ
one v k = from_bool (eqb v k)

-- "the first graded verdict sets both"
unfoldable pub largest_with : Tally → ℤ → ℤ
largest_with t net = when eqb t.n 0 then net else (when lt_z t.largest net then net else t.largest)

unfoldable pub smallest_with : Tally → ℤ → ℤ
smallest_with t net = when eqb t.n 0 then net else (when lt_z net t.smallest then net else t.smallest)

-- one more of verdict v among the eight counts
unfoldable pub counted_with : Counts → ℕ → Counts
counted_with c v =
    record {
      lolo = c.lolo + one v lolo;
      lo = c.lo + one v lo;
      ok = c.ok + one v ok;
      hi = c.hi + one v hi;
      hihi = c.hihi + one v hihi;
      foreign = c.foreign + one v foreign;
      double = c.double + one v two_on;
      crash = c.crash + one v crash;
    }

-- one more net among the graded ones
unfoldable pub weighed_with : Tally → ℤ → Tally
weighed_with t net =
    record {
      counts = t.counts;
      n = t.n + 1;
      sum = t.sum +ℤ net;
      squares = t.squares + nat_abs net * nat_abs net;
      largest = largest_with t net;
      smallest = smallest_with t net;
    }

-- the tally with other counts
abbrev pub with_counts : Tally → Counts → Tally
with_counts t c = record { counts = c; n = t.n; sum = t.sum; squares = t.squares; largest = t.largest; smallest = t.smallest }

-- a tally with one more verdict
unfoldable pub added : Tally → ℕ → ℤ → Tally
added t v net =
    when is_grade v
    then weighed_with (with_counts t (counted_with t.counts v)) net
    else with_counts t (counted_with t.counts v)

-- a tally takes a verdict with its net: all three are fit, and there is room
unfoldable pub takes : Tally → ℕ → ℤ → Bool
takes t v net = tally_fit t && is_verdict v && is_weight net && has_room t

-- the tally with a verdict; none where it is given but not tallied
unfoldable pub noted_of : Tally → ℕ → ℤ → Option Tally
noted_of t v net = when takes t v net then Some (added t v net) else None
