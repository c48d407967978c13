-- 01, "Text lines": a field at the head of a text, and a line that is one field.
use Rattle.std.specs.Prelude.{ℕ, List, [], ◌∷◌, ◌++◌, ℤ, length, drop, map, Option, None, Some}
use Rattle.laws.specs.Choice.{when◌then◌else◌}
use Rattle.numeral.specs.Number.{Head, none, number_head, hold}
use Rattle.text.specs.Form.{Item, byte, number, Values, other, values}
use Rattle.text.specs.Read.{at}
use Rattle.text.specs.Views.{is_prefix}

-- the number behind a key
abbrev pub field_head : List ℕ → List ℕ → Head
field_head key s = when is_prefix key s then number_head (drop (length key) s) else none

-- a line of one field: its key and its number
abbrev pub sole_form : List ℕ → List Item
sole_form key = map byte key ++ number ∷ []

-- that number, held within the limit: no field's range reaches it
abbrev pub sole_value : Values → Option ℤ
sole_value other = None
sole_value (values vs) = Some (hold (at vs 0))
