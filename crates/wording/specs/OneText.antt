-- 01, "Text lines": "no plus, leading zero or -0" leaves each line that is taken no other text.
use Rattle.std.specs.Prelude.{ℕ, ◌≤◌, ◌≡◌, List, [], ◌∷◌, ◌++◌, length, ℤ, pos}
use Prim.Native.String.{String}
use Rattle.text.specs.Form.{Item, four, word_items, fields_form, values, line_values, line_text}

pub record OneText : Type 0 where
  -- what the reader takes is what the writer gives for the values
  pub taken : (form : List Item) (s : List ℕ) (vs : List ℤ) → line_values form s ≡ values vs → s ≡ line_text form vs
  -- and it takes all that the writer gives: for any list of fields and as many values
  pub fields : (keys : List String) (vs : List ℤ) → length vs ≡ length keys → line_values (fields_form keys) (line_text (fields_form keys) vs) ≡ values vs
  -- for any word
  pub commands : (word : String) → line_values (word_items word) (line_text (word_items word) []) ≡ values []
  -- and for any word with a number of four digits
  pub codes : (word : String) (n : ℕ) → n ≤ 9999
      → line_values (word_items word ++ four ∷ []) (line_text (word_items word ++ four ∷ []) (pos n ∷ [])) ≡ values (pos n ∷ [])
