-- 01, "Text lines": how a number at the head of a text is read and held, and how four digits are written.
use Rattle.std.specs.Prelude.{ℕ, suc, ◌+◌, ◌-◌, ◌*◌, ◌/◌, ◌%◌, min, Bool, true, false, ◌&&◌, List, [], ◌∷◌, eqb, ℤ, pos, negsuc, neg_ℤ}
use Prim.Native.Char.{code}
use Rattle.laws.specs.Choice.{when◌then◌else◌, within}
use Rattle.decimal.specs.Bytes.{digit_byte}

-- what stands at the head of a text: no number, or a number and the text behind it
pub data Head : Type 0 where
  none : Head
  some : ℤ → List ℕ → Head

abbrev pub is_digit : ℕ → Bool
is_digit b = within (digit_byte 0) (digit_byte 9) b

abbrev pub digit_of : ℕ → ℕ
digit_of b = b - digit_byte 0

-- a size, below zero or not
abbrev pub signed : Bool → ℕ → ℤ
signed true n = neg_ℤ (pos n)
signed false n = pos n

-- the digits at the head of a text, behind those of n: "of any number of digits"
abbrev pub digits : Bool → ℕ → List ℕ → Head
digits below n [] = some (signed below n) []
digits below n (b ∷ s) = when is_digit b then digits below (n * 10 + digit_of b) s else some (signed below n) (b ∷ s)

-- digits with the first 1 to 9: "no .. leading zero"
abbrev pub positive : Bool → List ℕ → Head
positive below [] = none
positive below (b ∷ s) = when within (digit_byte 1) (digit_byte 9) b then digits below (digit_of b) s else none

-- `0`, or `-` and such digits, or such digits: "no plus, leading zero or -0"
abbrev pub number_head : List ℕ → Head
number_head [] = none
number_head (b ∷ s) = when eqb b (digit_byte 0) then some (pos 0) s else (when eqb b (code "-") then positive true s else positive false (b ∷ s))

abbrev pub four_digits : ℕ → ℕ → ℕ → ℕ → Bool
four_digits a b c d = is_digit a && (is_digit b && (is_digit c && is_digit d))

abbrev pub four_number : ℕ → ℕ → ℕ → ℕ → ℕ
four_number a b c d = digit_of a * 1000 + digit_of b * 100 + digit_of c * 10 + digit_of d

-- "with four digits"
abbrev pub four_head : List ℕ → Head
four_head [] = none
four_head (a ∷ []) = none
four_head (a ∷ b ∷ []) = none
four_head (a ∷ b ∷ c ∷ []) = none
four_head (a ∷ b ∷ c ∷ d ∷ s) = when four_digits a b c d then some (pos (four_number a b c d)) s else none

-- and the writer: a number from 0 to 9999
abbrev pub four_text : ℤ → List ℕ
four_text (pos n) = digit_byte (n / 10 / 10 / 10) ∷ digit_byte (n / 10 / 10 % 10) ∷ digit_byte (n / 10 % 10) ∷ digit_byte (n % 10) ∷ []
four_text (negsuc n) = []

-- "A well-formed number too small or too large, of any number of digits, is refused 2": no field's range reaches
-- this limit, so a number held at it is out of range as the number was.
abbrev pub limit : ℕ
limit = 1000000000

-- a number held within the limit
abbrev pub hold : ℤ → ℤ
hold (pos n) = pos (min n limit)
hold (negsuc n) = neg_ℤ (pos (min (suc n) limit))

-- a value for a field that is never negative: a negative one, too small, is out of range as the limit is
abbrev pub unsigned_of : ℤ → ℕ
unsigned_of (pos n) = n
unsigned_of (negsuc n) = limit
