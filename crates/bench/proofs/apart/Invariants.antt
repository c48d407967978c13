-- What the loop keeps.
use mathlib.Core.Path.{◌≡◌}
use lib.ListN.{drop}
use Rattle.std.specs.Int.{int_max, int_min}
use Rattle.lists.specs.Each.{folded}
use Rattle.bench.specs.Bench.{largest_of, smallest_of}
use Rattle.bench.proofs.apart.Given as goal

abbrev pub invariant-loop-gross : goal.invariant-loop-gross
invariant-loop-gross l =
    (largest_of l.fn.grosses ≡ folded int_max l.largest (drop l.gross-index l.gross-items))
    × (smallest_of l.fn.grosses ≡ folded int_min l.smallest (drop l.gross-index l.gross-items))
