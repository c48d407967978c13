-- The reader's parts in the terms of `Form`, and the numbers of a buffer as lines.
use Rattle.std.specs.Prelude.{ℕ, ◌≡◌, List, [], ◌∷◌, ◌++◌, pos, Option}
use Rattle.numeral.specs.Number.{some, number_head}
use Rattle.exitlog.specs.Entry.{tick_of}
use Rattle.exitlog.specs.Lines.{pair_text}

-- the text is a number without a sign, and nothing behind it
pub record PlainNumber (s : List ℕ) : Type 0 where
  pub n : ℕ
  pub is : number_head s ≡ some (pos n) []

-- its tick
abbrev pub TickOf : List ℕ → Option ℕ → Type 0
TickOf s t = (p : PlainNumber s) → t ≡ tick_of (pos p.n)

-- the lines of the pairs of a buffer's numbers
abbrev pub numbers_text : List ℕ → List ℕ
numbers_text [] = []
numbers_text (v ∷ []) = []
numbers_text (v ∷ t ∷ l) = pair_text v t ++ numbers_text l
