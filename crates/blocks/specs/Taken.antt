-- How much of the output `write` takes, by its own counts.
use Rattle.std.specs.Prelude.{ℕ, ◌+◌, ◌≤◌, ◌≡◌, Bool, List, [], ◌∷◌, eqb}
use Rattle.blocks.specs.declared.output.Taken.{Taken}

abbrev pub all_taken : Taken → Bool
all_taken t = eqb t.taken t.of

-- all that was taken, where each write took so much; the last one stands first
unfoldable pub all_of : List ℕ → ℕ
all_of [] = 0
all_of (n ∷ ns) = all_of ns + n

-- of this many bytes: what the writes took, one after another
pub record TakenOf (size : ℕ) (t : Taken) : Type 0 where
  pub counts : List ℕ
  pub whole : t.of ≡ size
  pub taken : t.taken ≡ all_of counts
  pub within : t.taken ≤ size
