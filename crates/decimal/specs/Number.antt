-- 01, "Text lines": a number has "no plus, leading zero or -0".
use Rattle.std.specs.Prelude.{ℕ, zero, suc, ◌/◌, ◌%◌, List, [], ◌∷◌, ◌++◌, ltb, ℤ, pos, negsuc}
use Rattle.laws.specs.Choice.{when◌then◌else◌}
use Rattle.decimal.specs.Bytes.{bytes, digit_byte}

-- a number below 10 is its digit, any other its tenth and its last digit; fuel bounds the number of digits
abbrev pub decimal_by : ℕ → ℕ → List ℕ
decimal_by zero n = []
decimal_by (suc fuel) n = when ltb n 10 then digit_byte n ∷ [] else decimal_by fuel (n / 10) ++ (digit_byte (n % 10) ∷ [])

unfoldable pub decimal : ℕ → List ℕ
decimal n = decimal_by (suc n) n

-- a number with a sign; negsuc n is -(n + 1)
abbrev pub number_text : ℤ → List ℕ
number_text (pos n) = decimal n
number_text (negsuc n) = bytes "-" ++ decimal (suc n)
