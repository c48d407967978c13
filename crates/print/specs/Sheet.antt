-- 01, "Text lines": a sheet, "one field a line".
use Rattle.std.specs.Prelude.{ℕ, ◌+◌, ◌/◌, ◌%◌, ℤ, List, [], ◌∷◌, ◌++◌, Option, None, Some}
use Rattle.sheet.specs.declared.sheet.Sheet.{Sheet}
use Rattle.decimal.specs.Bytes.{bytes}
use Rattle.decimal.specs.Number.{decimal, number_text}
use Rattle.print.specs.Text.{line_end, none, field, joined}

abbrev pub figure_text : Option ℤ → List ℕ
figure_text None = none
figure_text (Some v) = number_text v

-- T-06: "The report prints s as tenths with one decimal, as sd=1.5."
abbrev pub tenths_text : ℕ → List ℕ
tenths_text s = decimal (s / 10) ++ (bytes "." ++ decimal (s % 10))

abbrev pub spread_text : Option ℕ → List ℕ
spread_text None = none
spread_text (Some s) = tenths_text s

abbrev pub totals : ℕ → Sheet → List (List ℕ)
totals code s = field "code" (decimal code) ∷ field "total" (decimal s.total) ∷ field "ng" (decimal s.ng) ∷ []

abbrev pub grades : Sheet → List (List ℕ)
grades s =
    field "lolo" (decimal s.counts.lolo)
    ∷ field "lo" (decimal s.counts.lo)
    ∷ field "ok" (decimal s.counts.ok)
    ∷ field "hi" (decimal s.counts.hi)
    ∷ field "hihi" (decimal s.counts.hihi)
    ∷ []

abbrev pub faults : Sheet → List (List ℕ)
faults s = field "foreign" (decimal s.counts.foreign) ∷ field "double" (decimal s.counts.double) ∷ field "crash" (decimal s.counts.crash) ∷ []

abbrev pub weight_figures : Sheet → List (List ℕ)
weight_figures s =
    field "max" (figure_text s.max)
    ∷ field "min" (figure_text s.min)
    ∷ field "sum" (number_text s.sum)
    ∷ field "mean" (figure_text s.mean)
    ∷ field "deviation" (figure_text s.deviation)
    ∷ []

abbrev pub spreads : Sheet → List (List ℕ)
spreads s = field "sd" (spread_text s.sd) ∷ field "sdp" (spread_text s.sdp) ∷ []

-- T-05: "21 lines class0 to class20"
abbrev pub class_field : ℕ → ℕ → List ℕ
class_field k n = bytes "class" ++ (decimal k ++ (bytes "=" ++ decimal n))

-- the counts of class k and those behind it
unfoldable pub classes_from : ℕ → List ℕ → List (List ℕ)
classes_from k [] = []
classes_from k (n ∷ ns) = class_field k n ∷ classes_from (k + 1) ns

unfoldable pub sheet_text : ℕ → Sheet → List ℕ
sheet_text code s =
    joined line_end (totals code s ++ (grades s ++ (faults s ++ (weight_figures s ++ (spreads s ++ classes_from 0 s.classes))))) ++ line_end

-- a buffer of at least so many bytes has room for it
abbrev pub sheet_room : ℕ
sheet_room = 2048
