-- The memory of a call: its samples are the first numbers there.
use Rattle.std.specs.Prelude.{ℕ, ◌+◌, ◌≤◌, ◌≡◌, List, ℤ, length, Option, IfSome}
use Rattle.possible.specs.Answer.{most_samples}
use Rattle.margin.specs.declared.memory.Call.{Call}

-- samples that are too many are refused whatever follows: one over the most is kept
abbrev pub places : ℕ
places = most_samples + 1

-- the samples lie in the memory, which has its places
abbrev pub Holds : Option Call → List ℤ → Type 0
Holds call samples = (length samples ≡ places) × IfSome call (λ c. c.count ≤ places)
