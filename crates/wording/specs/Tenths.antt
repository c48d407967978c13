-- Request T-06 of 02: how a spread stands on the sheet, and that its digits give it back.
use Rattle.std.specs.Prelude.{ℕ, ◌≡◌, List, [], false, eqb, pos, Some}
use Prim.Native.Char.{code}
use Rattle.lists.specs.Each.{without}
use Rattle.decimal.specs.Bytes.{bytes}
use Rattle.numeral.specs.Number.{some, digits}
use Rattle.print.specs.Text.{field}
use Rattle.print.specs.Sheet.{spread_text}

abbrev pub point : ℕ
point = code "."

abbrev pub without_point : List ℕ → List ℕ
without_point text = without (λ (b : ℕ). eqb b point) text

pub record Tenths : Type 0 where
  -- "s as tenths with one decimal, as sd=1.5"
  pub example : field "sd" (spread_text (Some 15)) ≡ bytes "sd=1.5"
  -- without the point nothing but digits is left, and they are those of s
  pub read_back : (s : ℕ) → digits false 0 (without_point (spread_text (Some s))) ≡ some (pos s) []
