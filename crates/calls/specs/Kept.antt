-- A list that is kept in the first places of a memory while a call is being read: one that is too long is refused whatever follows, so a memory has one place over the most, and what has no place is not kept.
use Rattle.std.specs.Prelude.{ℕ, ◌+◌, ◌≡◌, List, [], ◌∷◌, ◌++◌, ltb, length, slice_set}
use Rattle.laws.specs.Choice.{when◌then◌else◌}

-- the list with one more, if it has a place
abbrev pub noted : {A : Type 0} → ℕ → List A → A → List A
noted places l x = when ltb (length l) places then l ++ x ∷ [] else l

-- it joins the list that stands in a memory's first places: a place past them is written to, if the memory has it, and they are n behind it
pub record Noted {A : Type 0} (before : List A) (count : ℕ) (x : A) (after : List A) (n : ℕ) : Type 0 where
  pub memory : after ≡ (when ltb count (length before) then slice_set before count x else before)
  pub counted : n ≡ (when ltb count (length before) then count + 1 else count)
