-- What the loop keeps.
use Prim.Native.Nat.{◌+◌, ◌≤◌}
use mathlib.Core.Path.{◌≡◌}
use lib.ListN.{length}
use Rattle.decimal.specs.Number.{decimal}
use Rattle.print.specs.Steps.{with_text_at}
use Rattle.print.proofs.buffer.put_decimal.Given as goal

abbrev pub invariant-loop-m : goal.invariant-loop-m
invariant-loop-m l = (l.place ≡ l.at + length (decimal l.m)) × (l.place ≤ l.end) × (length l.out ≡ length l.initial.out) × (with_text_at l.out l.at (decimal l.m) ≡ with_text_at l.initial.out l.at (decimal l.n))

abbrev pub decreases-loop-m : goal.decreases-loop-m
decreases-loop-m l = l.m
