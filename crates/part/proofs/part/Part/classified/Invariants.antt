-- What the loop keeps.
use mathlib.Core.Path.{◌≡◌}
use Prim.Native.Nat.{◌+◌, ◌≤◌, min}
use lib.ListN.{drop}
use Rattle.lists.specs.Counts.{add_up}
use Rattle.part.specs.Steps.{most}
use Rattle.part.proofs.part.Part.classified.Given as goal

abbrev pub invariant-loop-count : goal.invariant-loop-count
invariant-loop-count l = (l.all ≤ most) × (min (l.all + add_up (drop l.count-index l.count-items)) most ≡ min (add_up l.count-items) most)
