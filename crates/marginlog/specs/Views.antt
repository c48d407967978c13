-- The names as they are written, one behind the other, each at its place.
use Rattle.std.specs.Prelude.{ℕ, ◌+◌, ◌≤◌, Bool, List, [], ◌++◌, eqb, length}
use Rattle.laws.specs.Choice.{when◌then◌else◌}
use Rattle.decimal.specs.Bytes.{bytes}
use Rattle.print.specs.declared.lines.Lines.{Lines}
use Rattle.print.specs.Steps.{Writes}

-- the length of `outcomes=`
abbrev pub start : ℕ
start = 9

-- a name at a place, behind a comma unless it is the first
abbrev pub next_name : ℕ → Bool → List ℕ → List ℕ
next_name at possible name = when possible then (when eqb at start then name else (bytes "," ++ name)) else []

-- it was written, where there was room for it
abbrev pub NamePut : Lines → Bool → List ℕ → Lines → Type 0
NamePut before possible name after = before.at + (1 + length name) ≤ length before.out.now → Writes before (next_name before.at possible name) (1 + length name) after
