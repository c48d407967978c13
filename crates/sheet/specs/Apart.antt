-- 01, "for a report S² ≤ n·Q": it holds of every list of weights, so a tally of verdicts that were given is never refused for it.
use Rattle.std.specs.Prelude.{◌*◌, ◌≤◌, List, ℤ, nat_abs, length}
use Rattle.lists.specs.Sums.{sum_of, squares_of}

abbrev pub Apart : Type 0
Apart = (xs : List ℤ) → nat_abs (sum_of xs) * nat_abs (sum_of xs) ≤ length xs * squares_of xs
