-- Where a line of text ends in a part of the input: 01, "each up to LF". What the lines of an input are is defined once, in `controller/specs/Input`; that a program which goes by these ends takes those lines is proved of it.
use Rattle.std.specs.Prelude.{ℕ, zero, suc, ◌+◌, ◌≡◌, Bool, false, ◌||◌, List, [], ◌∷◌, eqb, length, get_or, drop}
use Rattle.laws.specs.Choice.{when◌then◌else◌}
use Rattle.decimal.specs.Bytes.{lf}

-- an LF is among the first k bytes
abbrev pub lf_among : List ℕ → ℕ → Bool
lf_among s zero = false
lf_among s (suc k) = lf_among s k || eqb (get_or s k 0) lf

-- how long the first line of text is: the bytes before its LF, or all of them
unfoldable pub line_length : List ℕ → ℕ
line_length [] = 0
line_length (b ∷ s) = when eqb b lf then 0 else suc (line_length s)

-- no line of text is complete
abbrev pub NoLf : List ℕ → Type 0
NoLf s = line_length s ≡ length s

-- where the line of text ends that begins at a place of the input
abbrev pub end_from : List ℕ → ℕ → ℕ
end_from input start = start + line_length (drop start input)
