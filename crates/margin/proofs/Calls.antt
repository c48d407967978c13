-- A line that begins a call. Assumes nothing.
use mathlib.Core.Path.{refl}
use mathlib.Core.List.{List}
use Prim.Native.Nat.{ℕ, ◌≤◌}
use lib.ListN.{length, take}
use Rattle.std.specs.Prelude.{None, Some}
use Rattle.calls.specs.Traces.{Answers}
use Rattle.marginlog.specs.declared.entry.Entry.TheVariants.{Begin}
use Rattle.margin.specs.Session.{State, Closes, margin_calls, new_reading}

pub begins : (s : State) (e : ℕ) (out : List ℕ) (n : ℕ) → (n ≤ length out) × Closes s (take n out)
    → Answers margin_calls s (Some (Begin e)) (Some (new_reading e)) out (Some n)
begins None e out n h = (refl, h.0, h.1)
begins (Some c) e out n h = (refl, h.0, h.1)
