-- What a write adds to its writer. Assumes nothing.
use mathlib.Core.Path.{◌≡◌, sym, ap, subst, ◌∙◌}
use mathlib.Core.List.{List, ◌++◌}
use Prim.Native.Nat.{ℕ, ◌+◌, ◌≤◌}
use native.Mathlib.Omega.{arith}
use lib.ListN.{length, take, drop, length-drop}
use lib.Seq.{take-add, take-take, length-take-le}
use Rattle.std.specs.Prelude.{Option, Result, Ok, Err}
use Rattle.std.specs.Result.{result_unwrap_or}
use Rattle.std.specs.Io.{WritesAtMost}
use Rattle.std.specs.Io.KnownBytes.{Appends, WriteAppends}
use Rattle.std.proofs.KnownBytes.{Appends-trans, Appends-kept}

-- the writer has the first `done` bytes of `out`, and then takes of the next `k`
pub wrote : {E : Type 0} (a b c : Option (List ℕ)) (r : Result ℕ E) (out : List ℕ) (done k to : ℕ) → done + result_unwrap_or r 0 ≡ to → done + k ≤ length out → Appends a b (take done out)
    → WritesAtMost r (take k (drop done out)) → WriteAppends b c r (take k (drop done out)) → Appends a c (take to out)
wrote a b c (Ok n) out done k to all within before fits this =
    let rest = length-drop done out in
    let size = length-take-le k (drop done out) (omega (arith, within, rest)) in
    let next : take n (take k (drop done out)) ≡ take n (drop done out) = take-take n k (drop done out) (omega (arith, fits, size)) in
    subst (Appends a c) (ap (λ (t : List ℕ). take done out ++ t) next ∙ sym (take-add done n out) ∙ ap (λ (m : ℕ). take m out) all) (Appends-trans a b c (take done out) (take n (take k (drop done out))) before this)
wrote a b c (Err e) out done k to all within before fits this =
    let same : done ≡ to = omega (arith, all) in
    subst (λ (m : ℕ). Appends a c (take m out)) same (Appends-kept a b c (take done out) before this)
