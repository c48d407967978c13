-- What the loop keeps.
use mathlib.Core.List.{map}
use mathlib.Core.Path.{◌≡◌}
use Prim.Native.Nat.{◌+◌, ◌*◌, ◌≤◌}
use lib.IntN.{nat_abs}
use lib.ListN.{drop}
use Rattle.lists.specs.Counts.{add_up}
use Rattle.tallies.proofs.sum_of.Given as goal

abbrev pub invariant-loop-x : goal.invariant-loop-x
invariant-loop-x l = (l.sum ≤ l.x-index * 999999) × (add_up (map nat_abs l.p) ≡ l.sum + add_up (map nat_abs (drop l.x-index l.p)))
