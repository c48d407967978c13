-- 01, "Text lines": the lines of an input, and from them the line and both memories behind it and what is printed over it.
use Rattle.std.specs.Prelude.{ℕ, List, [], ◌∷◌, ◌++◌, eqb}
use Rattle.laws.specs.Choice.{when◌then◌else◌}
use Rattle.decimal.specs.Bytes.{lf}
use Rattle.line.specs.State.{State, fresh_state}
use Rattle.text.specs.Read.{read_line}
use Rattle.controller.specs.Serve.{answer_to, state_after}

-- at the end of the input: "nothing behind the last LF is no line"
abbrev pub last_line : List ℕ → List (List ℕ)
last_line [] = []
last_line (b ∷ text) = (b ∷ text) ∷ []

-- "each up to LF or the end", where text is the line that has begun
unfoldable pub lines_from : List ℕ → List ℕ → List (List ℕ)
lines_from text [] = last_line text
lines_from text (b ∷ s) = when eqb b lf then text ∷ lines_from [] s else lines_from (text ++ b ∷ []) s

abbrev pub lines_of : List ℕ → List (List ℕ)
lines_of input = lines_from [] input

-- the line and both memories behind lines of text
unfoldable pub state_behind : State → List (List ℕ) → State
state_behind s [] = s
state_behind s (l ∷ ls) = state_behind (state_after s (read_line l)) ls

-- what is printed over lines of text
unfoldable pub answers_to : State → List (List ℕ) → List ℕ
answers_to s [] = []
answers_to s (l ∷ ls) = answer_to s (read_line l) ++ answers_to (state_after s (read_line l)) ls

abbrev pub printed : State → List ℕ → List ℕ
printed s input = answers_to s (lines_of input)

-- the program: "from a fresh line and memory, reads lines from standard input"
unfoldable pub program : List ℕ → List ℕ
program input = printed fresh_state input
