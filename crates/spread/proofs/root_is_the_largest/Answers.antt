-- `root_is_the_largest` meets its contract by the laws of roots.
use Prim.Native.Nat.{◌-◌}
use native.Mathlib.Omega.{arith}
use Rattle.spread.proofs.Roots.{root-largest, root-only}
use Rattle.spread.proofs.Tallies.{spread-largest, sd-none, sdp-none}
use Rattle.spread.proofs.root_is_the_largest.Goals as goal

pub returns : goal.returns
returns c =
    record {
      largest = root-largest;
      only = root-only;
      sd = λ t f h. spread-largest t (t.n - 1) f (omega arith) (omega arith);
      sdp = λ t f h. spread-largest t t.n f h h;
      sd-none = sd-none;
      sdp-none = sdp-none;
    }
