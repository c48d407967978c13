-- 01, "Text lines": "fields key=value, one space between, order as below". A line is a list of bytes, its form a list of items.
use Rattle.std.specs.Prelude.{ℕ, suc, List, [], ◌∷◌, ◌++◌, eqb, ℤ}
use Prim.Native.Char.{code}
use Prim.Native.String.{String, [] as empty, ◌∷◌ as ◌then◌}
use Rattle.laws.specs.Choice.{when◌then◌else◌}
use Rattle.decimal.specs.Number.{number_text}
use Rattle.numeral.specs.Number.{Head, none, some, number_head, four_head, four_text}

-- one byte as it stands, a number, or four digits
pub data Item : Type 0 where
  byte : ℕ → Item
  number : Item
  four : Item

-- a word as it stands
abbrev pub word_items : String → List Item
word_items empty = []
word_items (c then s) = byte (code c) ∷ word_items s

-- "key=value"
abbrev pub field_items : String → List Item
field_items key = word_items key ++ (word_items "=" ++ number ∷ [])

-- the fields behind the first, "one space between"
abbrev pub more_items : List String → List Item
more_items [] = []
more_items (key ∷ keys) = word_items " " ++ (field_items key ++ more_items keys)

-- the form of a line with these fields
abbrev pub fields_form : List String → List Item
fields_form [] = []
fields_form (key ∷ keys) = field_items key ++ more_items keys

-- what a line says by a form: it has another one, or these values
pub data Values : Type 0 where
  other : Values
  values : List ℤ → Values

abbrev pub also : ℤ → Values → Values
also v other = other
also v (values vs) = values (v ∷ vs)

abbrev pub and_rest : (List ℕ → Values) → Head → Values
and_rest read none = other
and_rest read (some v rest) = also v (read rest)

-- the reader
abbrev pub line_values : List Item → List ℕ → Values
line_values [] [] = values []
line_values [] (b ∷ s) = other
line_values (byte c ∷ form) [] = other
line_values (byte c ∷ form) (b ∷ s) = when eqb b c then line_values form s else other
line_values (number ∷ form) s = and_rest (line_values form) (number_head s)
line_values (four ∷ form) s = and_rest (line_values form) (four_head s)

-- the writer
abbrev pub line_text : List Item → List ℤ → List ℕ
line_text [] vs = []
line_text (byte c ∷ form) vs = c ∷ line_text form vs
line_text (number ∷ form) [] = []
line_text (number ∷ form) (v ∷ vs) = number_text v ++ line_text form vs
line_text (four ∷ form) [] = []
line_text (four ∷ form) (v ∷ vs) = four_text v ++ line_text form vs

-- how many values a form has
abbrev pub value_count : List Item → ℕ
value_count [] = 0
value_count (byte c ∷ form) = value_count form
value_count (number ∷ form) = suc (value_count form)
value_count (four ∷ form) = suc (value_count form)
