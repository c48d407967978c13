-- What the loop keeps.
use Prim.Native.Nat.{◌-◌, ◌≤◌}
use mathlib.Core.Path.{◌≡◌}
use lib.ListN.{length, drop}
use Rattle.numeral.specs.Number.{digits, limit}
use Rattle.numeral.specs.Found.{held_head}
use Rattle.numeral.proofs.read_digits.Given as goal

abbrev pub invariant-loop-digit : goal.invariant-loop-digit
invariant-loop-digit l = (held_head (digits l.below l.size (drop l.next l.line)) ≡ held_head (digits l.below l.start (drop l.at l.line))) × (l.size ≤ limit)

abbrev pub decreases-loop-digit : goal.decreases-loop-digit
decreases-loop-digit l = length l.line - l.next
