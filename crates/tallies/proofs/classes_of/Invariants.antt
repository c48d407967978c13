-- What the loop keeps.
use mathlib.Core.Path.{◌≡◌}
use Prim.Native.Nat.{ℕ}
use lib.IntN.{ℤ, nat_abs}
use Rattle.lists.proofs.Pairs.{pairs_to}
use Rattle.tallies.proofs.classes_of.Given as goal

abbrev pub invariant-loop-i : goal.invariant-loop-i
invariant-loop-i l = l.classes ≡ pairs_to (λ (x : ℕ) (y : ℤ). nat_abs y) l.initial.classes l.p l.i
