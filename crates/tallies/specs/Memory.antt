-- 01, "Tallies lie in a second lent slice of numbers, 100 equal parts". A part is 34 numbers: those of the tally in the order of
-- `numbers`, and behind them the 21 class counts of T-05.
use Rattle.std.specs.Prelude.{ℕ, ◌+◌, ◌*◌, Bool, ◌&&◌, List, [], ◌∷◌, ◌++◌, map, leb, eqb, Option, Some, None, ℤ, pos, nat_abs, length, get_or, take, drop, replicate}
use Rattle.std.specs.Int.Signed.{le_z}
use Rattle.laws.specs.Choice.{when◌then◌else◌}
use Rattle.settings.specs.Settings.{last_code}
use Rattle.tally.specs.declared.tally.Tally.{Tally}
use Rattle.lists.specs.Each.{all_of}
use Rattle.part.specs.Part.{empty_part, part_fit}
use Rattle.part.specs.declared.part.Part.{Part}

-- the numbers of a tally, in their order
abbrev pub numbers : Tally → List ℤ
numbers t =
    pos t.counts.lolo ∷ pos t.counts.lo ∷ pos t.counts.ok ∷ pos t.counts.hi ∷ pos t.counts.hihi
    ∷ pos t.counts.foreign ∷ pos t.counts.double ∷ pos t.counts.crash
    ∷ pos t.n ∷ t.sum ∷ pos t.squares ∷ t.largest ∷ t.smallest ∷ []

abbrev pub tally_length : ℕ
tally_length = 13

-- the numbers of a part
abbrev pub part_numbers : Part → List ℤ
part_numbers p = numbers p.tally ++ map pos p.classes

-- how many numbers a part has
abbrev pub part_length : ℕ
part_length = 34

-- all parts together, one for each code
abbrev pub tallies_length : ℕ
tallies_length = 3400

-- code's part
unfoldable pub part : List ℤ → ℕ → List ℤ
part ts code = take part_length (drop (code * part_length) ts)

-- the tally whose numbers these are; a count has no sign
unfoldable pub tally_of : List ℤ → Tally
tally_of p =
    record {
      counts =
          record {
            lolo = nat_abs (get_or p 0 (pos 0));
            lo = nat_abs (get_or p 1 (pos 0));
            ok = nat_abs (get_or p 2 (pos 0));
            hi = nat_abs (get_or p 3 (pos 0));
            hihi = nat_abs (get_or p 4 (pos 0));
            foreign = nat_abs (get_or p 5 (pos 0));
            double = nat_abs (get_or p 6 (pos 0));
            crash = nat_abs (get_or p 7 (pos 0));
          };
      n = nat_abs (get_or p 8 (pos 0));
      sum = get_or p 9 (pos 0);
      squares = nat_abs (get_or p 10 (pos 0));
      largest = get_or p 11 (pos 0);
      smallest = get_or p 12 (pos 0);
    }

-- a count, n or a sum of squares below 0 is unfit
unfoldable pub unsigned : List ℤ → Bool
unsigned p =
    le_z (pos 0) (get_or p 0 (pos 0)) && le_z (pos 0) (get_or p 1 (pos 0)) && le_z (pos 0) (get_or p 2 (pos 0))
    && le_z (pos 0) (get_or p 3 (pos 0)) && le_z (pos 0) (get_or p 4 (pos 0)) && le_z (pos 0) (get_or p 5 (pos 0))
    && le_z (pos 0) (get_or p 6 (pos 0)) && le_z (pos 0) (get_or p 7 (pos 0)) && le_z (pos 0) (get_or p 8 (pos 0))
    && le_z (pos 0) (get_or p 10 (pos 0))

-- the part whose numbers these are
unfoldable pub part_of : List ℤ → Part
part_of p = record { tally = tally_of p; classes = map nat_abs (drop tally_length p) }

-- code's part, as tally and class counts
abbrev pub part_at : List ℤ → ℕ → Part
part_at ts code = part_of (part ts code)

-- the numbers are those of a fit part; a class count below 0 is unfit too
unfoldable pub numbers_fit : List ℤ → Bool
numbers_fit p = unsigned p && all_of (le_z (pos 0)) (drop tally_length p) && part_fit (part_of p)

abbrev pub part_at_fit : List ℤ → ℕ → Bool
part_at_fit ts code = numbers_fit (part ts code)

-- a code and a memory of the right length
abbrev pub lies : List ℤ → ℕ → Bool
lies ts code = leb code last_code && eqb (length ts) tallies_length

-- code's part is there, and is fit
unfoldable pub fit_at : List ℤ → ℕ → Bool
fit_at ts code = lies ts code && part_at_fit ts code

-- what reading code's part gives
abbrev pub read_at : List ℤ → ℕ → Part
read_at ts code = when lies ts code then part_at ts code else empty_part

-- the memory with a part in code's place
unfoldable pub with_part : List ℤ → ℕ → Part → List ℤ
with_part ts code p = take (code * part_length) ts ++ (part_numbers p ++ drop (code * part_length + part_length) ts)

-- what writing leaves: an unfit part, code or memory is not written
abbrev pub written : List ℤ → ℕ → Part → List ℤ
written ts code p = when lies ts code && part_fit p then with_part ts code p else ts

-- "all zeros"
unfoldable pub zeros : ℕ → List ℤ
zeros k = replicate k (pos 0)

-- ---- what the private steps ask and give

-- where code's part begins
abbrev pub start_of : List ℤ → ℕ → Option ℕ
start_of ts code = when lies ts code then Some (code * part_length) else None

abbrev pub small_count : ℤ → Bool
small_count x = le_z (pos 0) x && le_z x (pos 999999)
