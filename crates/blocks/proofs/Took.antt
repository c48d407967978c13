-- What the writes took so far. Assumes nothing.
use mathlib.Core.Path.{◌≡◌, refl}
use mathlib.Core.List.{List, [], ◌∷◌}
use Prim.Native.Nat.{ℕ, ◌+◌, ◌≤◌}
use native.Mathlib.Omega.{arith}
use Rattle.blocks.specs.Taken.{all_of}

-- so many bytes were taken so far
pub record Took (done of : ℕ) : Type 0 where
  pub counts : List ℕ
  pub taken : done ≡ all_of counts
  pub within : done ≤ of

pub took_none : (of : ℕ) → Took 0 of
unfolding all_of
took_none of = record { counts = []; taken = refl; within = omega arith }

pub took_more : (done of n : ℕ) → Took done of → done + n ≤ of → Took (done + n) of
unfolding all_of
took_more done of n t h = record { counts = n ∷ t.counts; taken = let e = t.taken in omega (arith, e); within = h }
