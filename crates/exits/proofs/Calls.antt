-- A line that begins a call. Assumes nothing.
use mathlib.Core.Path.{refl}
use mathlib.Core.List.{List}
use Prim.Native.Nat.{ℕ, ◌≤◌}
use lib.ListN.{length, take}
use Rattle.std.specs.Prelude.{None, Some}
use Rattle.calls.specs.Traces.{Answers}
use Rattle.exitlog.specs.declared.entry.Entry.TheVariants.{Begin}
use Rattle.exits.specs.Session.{State, Closes, exit_calls, new_reading}

pub begins : (s : State) (a b : ℕ) (out : List ℕ) (n : ℕ) → (n ≤ length out) × Closes s (take n out)
    → Answers exit_calls s (Some (Begin a b)) (Some (new_reading a b)) out (Some n)
begins None a b out n h = (refl, h.0, h.1)
begins (Some c) a b out n h = (refl, h.0, h.1)
