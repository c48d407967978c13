-- Where a part begins, and what lies there. Assumes nothing.
use mathlib.Core.Path.{◌≡◌}
use mathlib.Core.Bool.{true, false}
use mathlib.Core.List.{List}
use Prim.Native.Nat.{ℕ, ◌+◌, ◌-◌, ◌*◌, ◌≤◌}
use native.Mathlib.Omega.{arith}
use lib.Dec.{leb, eqb}
use lib.IntN.{ℤ}
use lib.ListN.{length, take, drop}
use borrow.Author.Tests.{leb-true, eqb-true}
use Rattle.std.specs.Prelude.{Some, None}
use Rattle.laws.proofs.Tests.{both}
use Rattle.part.proofs.Chosen.{none_given, some_given}
use Rattle.tallies.specs.Memory.{part, lies, start_of}

pub starts-not : (ts : List ℤ) (code : ℕ) → start_of ts code ≡ None → lies ts code ≡ false
starts-not ts code e = none_given (lies ts code) (code * 34) e

module _ (ts : List ℤ) (code at : ℕ) (e : start_of ts code ≡ Some at) where
  pub starts-there : lies ts code ≡ true
  starts-there = (some_given (lies ts code) (code * 34) at e).0

  pub start_is : at ≡ code * 34
  start_is = (some_given (lies ts code) (code * 34) at e).1

  pub start-room : at + 34 ≤ length ts
  start-room =
      let b = both (leb code 99) (eqb (length ts) 3400) starts-there in
      omega (arith, start_is, leb-true code 99 b.0, eqb-true (length ts) 3400 b.1)

  pub part_here : take (at + 34 - at) (drop at ts) ≡ part ts code
  unfolding part
  part_here = let k : at + 34 - at ≡ 34 = omega arith in rw (k, start_is)
