-- The lines of an input, byte by byte: an LF, another byte, the end; and what lines of text lead to. Assumes nothing.
use mathlib.Core.Path.{◌≡◌, refl, sym, ap, ◌∙◌}
use mathlib.Core.Bool.{true, false}
use mathlib.Core.List.{List, [], ◌∷◌, ◌++◌}
use Prim.Native.Nat.{ℕ}
use lib.Dec.{eqb}
use Rattle.decimal.specs.Bytes.{lf}
use Rattle.line.specs.State.{State}
use Rattle.text.specs.Read.{read_line}
use Rattle.controller.specs.Serve.{answer_to, state_after}
use Rattle.controller.specs.Input.{last_line, lines_from, state_behind, answers_to}

pub lines_end : (text : List ℕ) → lines_from text [] ≡ last_line text
unfolding lines_from
lines_end text = refl

pub lines-lf : (text : List ℕ) (b : ℕ) (s : List ℕ) → eqb b lf ≡ true → lines_from text (b ∷ s) ≡ text ∷ lines_from [] s
unfolding lines_from
lines-lf text b s e = rw e refl

pub lines_other : (text : List ℕ) (b : ℕ) (s : List ℕ) → eqb b lf ≡ false → lines_from text (b ∷ s) ≡ lines_from (text ++ b ∷ []) s
unfolding lines_from
lines_other text b s e = rw e refl

-- an LF at the end ends the line that has begun, as the end itself does
pub lines-closed : (b : ℕ) (text : List ℕ) → lines_from (b ∷ text) (lf ∷ []) ≡ lines_from (b ∷ text) []
lines-closed b text = lines-lf (b ∷ text) lf [] refl ∙ ap (λ (ls : List (List ℕ)). (b ∷ text) ∷ ls) (lines_end []) ∙ sym (lines_end (b ∷ text))

pub behind-none : (s : State) → state_behind s [] ≡ s
unfolding state_behind
behind-none s = refl

pub behind-one : (s : State) (l : List ℕ) (ls : List (List ℕ)) → state_behind s (l ∷ ls) ≡ state_behind (state_after s (read_line l)) ls
unfolding state_behind
behind-one s l ls = refl

pub answers_none : (s : State) → answers_to s [] ≡ []
unfolding answers_to
answers_none s = refl

pub answers_one : (s : State) (l : List ℕ) (ls : List (List ℕ)) → answers_to s (l ∷ ls) ≡ answer_to s (read_line l) ++ answers_to (state_after s (read_line l)) ls
unfolding answers_to
answers_one s l ls = refl
