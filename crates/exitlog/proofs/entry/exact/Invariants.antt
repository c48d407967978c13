-- What the loop keeps.
use mathlib.Core.Path.{◌≡◌}
use mathlib.Core.Bool.{false}
use mathlib.Core.List.{List, []}
use Prim.Native.Nat.{ℕ, ◌≤◌}
use lib.IntN.{pos}
use lib.ListN.{drop}
use Rattle.numeral.specs.Number.{some, digits}
use Rattle.exitlog.specs.Entry.{largest}
use Rattle.exitlog.specs.Views.{PlainNumber}
use Rattle.exitlog.proofs.entry.exact.Given as goal

-- what the digits read so far and those left give is the number
abbrev pub Reads : List ℕ → ℕ → ℕ → ℕ → Type 0
Reads line at size i = (p : PlainNumber (drop at line)) → digits false size (drop i line) ≡ some (pos p.n) []

abbrev pub invariant-loop-i : goal.invariant-loop-i
invariant-loop-i l = (l.size ≤ largest) × Reads l.line l.at l.size l.i
