-- What the reader finds at a place of a line, in the terms of `Number`.
use Rattle.std.specs.Prelude.{ℕ, Bool, false, List, [], ◌∷◌, drop, eqb, Option, Some, None}
use Rattle.laws.specs.Choice.{when◌then◌else◌}
use Rattle.numeral.specs.Number.{Head, none, some, is_digit, digit_of, hold}
use Rattle.numeral.specs.declared.Found.{Found}

-- the head of a text is the byte c
abbrev pub byte_is : ℕ → List ℕ → Bool
byte_is c [] = false
byte_is c (b ∷ s) = eqb b c

-- the value of the digit at the head of a text
abbrev pub digit_head : List ℕ → Option ℕ
digit_head [] = None
digit_head (b ∷ s) = when is_digit b then Some (digit_of b) else None

abbrev pub held_head : Head → Head
held_head none = none
held_head (some v rest) = some (hold v) rest

abbrev pub found : List ℕ → Option Found → Head
found line None = none
found line (Some f) = some f.value (drop f.next line)
