-- A list in places of a fixed number.
use Rattle.std.specs.Prelude.{ℕ, ◌-◌, List, ◌++◌, length, replicate}

-- a list in the first of n places, and d in those behind
abbrev pub in_places : {A : Type 0} → ℕ → A → List A → List A
in_places n d l = l ++ replicate (n - length l) d
