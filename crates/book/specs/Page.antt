-- 01, "Counts are by outcome; n, S, Q, largest and smallest (0 if none) are over the nets of outcomes 1 to 5."
-- 02, T-05: "each count is that of the standing graded verdicts in its class".
use Rattle.std.specs.Prelude.{ℕ, ◌+◌, Bool, ◌&&◌, List, [], ◌∷◌, eqb, ℤ, pos, length}
use Rattle.std.specs.Int.{from_bool}
use Rattle.std.specs.Int.Signed.{lt_z}
use Rattle.laws.specs.Choice.{when◌then◌else◌}
use Rattle.lists.specs.Sums.{sum_of, squares_of}
use Rattle.lists.specs.Each.{counted}
use Rattle.lists.specs.Counts.{tab}
use Rattle.verdict.specs.Verdict.{lolo, lo, ok, hi, hihi, foreign, two_on, crash, is_grade}
use Rattle.tally.specs.declared.counts.Counts.{Counts}
use Rattle.tally.specs.declared.tally.Tally.{Tally}
use Rattle.part.specs.Class.{class_count, holds}
use Rattle.part.specs.declared.part.Part.{Part}
use Rattle.book.specs.Book.{Verdict}

-- how many verdicts have this outcome
unfoldable pub count_of : ℕ → List Verdict → ℕ
count_of o [] = 0
count_of o (v ∷ p) = count_of o p + from_bool (eqb v.outcome o)

-- the nets of outcomes 1 to 5
unfoldable pub nets_of : List Verdict → List ℤ
nets_of [] = []
nets_of (v ∷ p) = when is_grade v.outcome then v.net ∷ nets_of p else nets_of p

-- the largest of x and the numbers of a list, and the smallest
unfoldable pub largest_from : ℤ → List ℤ → ℤ
largest_from x [] = x
largest_from x (y ∷ ys) = when lt_z (largest_from y ys) x then x else largest_from y ys

unfoldable pub smallest_from : ℤ → List ℤ → ℤ
smallest_from x [] = x
smallest_from x (y ∷ ys) = when lt_z x (smallest_from y ys) then x else smallest_from y ys

-- "(0 if none)"
abbrev pub largest_of : List ℤ → ℤ
largest_of [] = pos 0
largest_of (x ∷ xs) = largest_from x xs

abbrev pub smallest_of : List ℤ → ℤ
smallest_of [] = pos 0
smallest_of (x ∷ xs) = smallest_from x xs

-- how many verdicts of each kind are on a page
unfoldable pub counts_of_page : List Verdict → Counts
counts_of_page p =
    record {
      lolo = count_of lolo p;
      lo = count_of lo p;
      ok = count_of ok p;
      hi = count_of hi p;
      hihi = count_of hihi p;
      foreign = count_of foreign p;
      double = count_of two_on p;
      crash = count_of crash p;
    }

-- the tally of the verdicts on a page
unfoldable pub tally_of_page : List Verdict → Tally
tally_of_page p =
    record {
      counts = counts_of_page p;
      n = length (nets_of p);
      sum = sum_of (nets_of p);
      squares = squares_of (nets_of p);
      largest = largest_of (nets_of p);
      smallest = smallest_of (nets_of p);
    }

-- a graded verdict in class k, by the target noted with it
abbrev pub in_class : ℕ → Verdict → Bool
in_class k v = is_grade v.outcome && holds k v.net v.target

-- the counts of classes 0 to 20
abbrev pub histogram : List Verdict → List ℕ
histogram p = tab class_count (λ (k : ℕ). counted (in_class k) p)

-- what stands under a code with this page
abbrev pub part_of_page : List Verdict → Part
part_of_page p = record { tally = tally_of_page p; classes = histogram p }
