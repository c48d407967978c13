-- The memories of a call: its lists are their first ticks.
use Rattle.std.specs.Prelude.{ℕ, ◌+◌, ◌*◌, ◌≤◌, ◌≡◌, List, length, Option, IfSome}
use Rattle.pairing.specs.Answer.{longest_list}
use Rattle.exits.specs.declared.memory.Call.{Call}

-- a list that is too long is refused whatever follows: one tick over the longest is kept
abbrev pub places : ℕ
places = longest_list + 1

-- the lists lie in the memories, which have their places
abbrev pub Holds : Option Call → List ℕ → List ℕ → List ℕ → Type 0
Holds call verdicts signals pairs =
    (length verdicts ≡ places) × (length signals ≡ places) × (length pairs ≡ 2 * places)
    × IfSome call (λ c. (c.verdicts ≤ places) × (c.signals ≤ places))
