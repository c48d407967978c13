-- What the loop keeps.
use mathlib.Core.Path.{◌≡◌}
use Prim.Native.Nat.{ℕ}
use lib.IntN.{ℤ, pos}
use Rattle.lists.proofs.Pairs.{pairs_to}
use Rattle.tallies.proofs.put_classes.Given as goal

abbrev pub invariant-loop-i : goal.invariant-loop-i
invariant-loop-i l = l.p ≡ pairs_to (λ (x : ℤ) (y : ℕ). pos y) l.initial.p l.classes l.i
