-- 01, "Bench marks", as one theorem, the spreads by request T-06 of 02.
use Rattle.std.specs.Prelude.{◌≡◌, List, [], ◌∷◌, map, ℤ, pos, negsuc, Some}
use Rattle.weight.specs.Mean.{rounded}
use Rattle.settings.specs.Grade.{grade_of}
use Rattle.settings.specs.declared.Settings.{Settings}
use Rattle.part.specs.Part.{empty_part, added_part}
use Rattle.part.specs.declared.part.Part.{Part}
use Rattle.sheet.specs.Sheet.{sheet_of}

-- the record of the text's example
abbrev pub example : Settings
example =
    record { target = pos 1000; lolo = pos 900; lo = pos 990; hi = pos 1010; hihi = pos 1100; nearzero = pos 100; tare = pos 0 }

abbrev pub nets : List ℤ
nets = pos 899 ∷ pos 900 ∷ pos 989 ∷ pos 990 ∷ pos 1010 ∷ pos 1011 ∷ pos 1100 ∷ pos 1101 ∷ []

-- the part of graded verdicts with these nets
unfoldable pub tallied : List ℤ → Part
tallied [] = empty_part
tallied (x ∷ xs) = added_part (tallied xs) (grade_of example x) x example.target

abbrev pub weights : List ℤ
weights = pos 1 ∷ pos 2 ∷ pos 4 ∷ []

pub record Bench : Type 0 where
  -- "net 899, 900, 989, 990, 1010, 1011, 1100, 1101 under the limits above give outcomes 1, 2, 2, 3, 3, 4, 4, 5"
  pub grades : map (grade_of example) nets ≡ 1 ∷ 2 ∷ 2 ∷ 3 ∷ 3 ∷ 4 ∷ 4 ∷ 5 ∷ []
  -- "sums 2007 and -2007 over 2 give 1004 and -1004"
  pub means : map (λ (s : ℤ). rounded s 2) (pos 2007 ∷ negsuc 2006 ∷ []) ≡ pos 1004 ∷ negsuc 1003 ∷ []
  -- T-06: "Weights 1, 2, 4 now give 1.5 and 1.2."
  pub sd : (sheet_of (tallied weights) example.target).sd ≡ Some 15
  pub sdp : (sheet_of (tallied weights) example.target).sdp ≡ Some 12
