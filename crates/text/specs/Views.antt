-- The reader's parts in the terms of `Form`.
use Rattle.std.specs.Prelude.{ℕ, Bool, true, false, not, ◌&&◌, ◌||◌, List, [], ◌∷◌, map, drop, eqb, ℤ, Option, Some, None}
use Prim.Native.Char.{code}
use Rattle.laws.specs.Choice.{when◌then◌else◌}
use Rattle.decimal.specs.Bytes.{bytes, digit_byte}
use Rattle.numeral.specs.Number.{Head, number_head, four_head}
use Rattle.text.specs.Form.{Item, byte, number, four, Values, other, values}

-- the source writes a form as a text: # is a number, $ four digits, and any other byte itself
abbrev pub is_literal : ℕ → Bool
is_literal b = not (eqb b (code "#")) && not (eqb b (code "$"))

abbrev pub item_of : ℕ → Item
item_of b = when eqb b (code "#") then number else (when eqb b (code "$") then four else byte b)

abbrev pub items_of : List ℕ → List Item
items_of form = map item_of form

-- what an item that has a value finds at the head of a text
abbrev pub value_head : ℕ → List ℕ → Head
value_head b s = when eqb b (code "#") then number_head s else four_head s

-- the values that the reader gives
abbrev pub form_values : Option (List ℤ) → Values
form_values None = other
form_values (Some vs) = values vs

-- the bytes of a key stand at the head of a text
abbrev pub is_prefix : List ℕ → List ℕ → Bool
is_prefix [] s = true
is_prefix (k ∷ key) [] = false
is_prefix (k ∷ key) (b ∷ s) = eqb b k && is_prefix key s

-- 0 or 1 does
abbrev pub is_level : List ℕ → Bool
is_level [] = false
is_level (b ∷ s) = eqb b (digit_byte 0) || eqb b (digit_byte 1)

-- the keys of a sample, each but the first behind its space
abbrev pub sensor_key : List ℕ
sensor_key = bytes "sensor="

abbrev pub emergency_key : List ℕ
emergency_key = bytes " emergency="

abbrev pub safety_key : List ℕ
safety_key = bytes " safety="

abbrev pub foreign_key : List ℕ
foreign_key = bytes " foreign="

abbrev pub gross_key : List ℕ
gross_key = bytes " gross="

-- a sample's text up to the value of safety, and between those of safety and gross, with levels for the other values
abbrev pub head_is : List ℕ → Bool
head_is s =
    is_prefix sensor_key (drop 0 s)
    && (is_level (drop 7 s) && (is_prefix emergency_key (drop 8 s) && (is_level (drop 19 s) && is_prefix safety_key (drop 20 s))))

abbrev pub middle_is : List ℕ → Bool
middle_is s = is_prefix foreign_key (drop 0 s) && (is_level (drop 9 s) && is_prefix gross_key (drop 10 s))
