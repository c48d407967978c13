-- What passes from a reader and to a writer, where it is known which bytes they have.
use Rattle.std.specs.Prelude.{ℕ, List, [], Option, length, drop}
use Rattle.std.specs.Io.KnownBytes.{Consumes, Appends, IsAtEnd}
use Rattle.laws.specs.Choice.{when◌then◌else◌}
use Rattle.blocks.specs.Left.{last_of, EndSeen, bytes_left}
use Rattle.blocks.specs.declared.left.Left.{Left}

-- the bytes that were read behind those that are held: none once no more will come
abbrev pub read_bytes : List ℕ → Left → List ℕ → List ℕ
read_bytes held l input = when last_of l then [] else drop (length held) (bytes_left l input)

-- the reader has given these; where the input has ended it has no more
pub record Drawn (before after : Option (List ℕ)) (held : List ℕ) (l : Left) (input : List ℕ) : Type 0 where
  pub given : Consumes before after (read_bytes held l input)
  pub ended : EndSeen l → IsAtEnd after

-- the bytes that a reader has left and those that a writer holds
pub record Streams : Type 0 where
  pub left : Option (List ℕ)
  pub holds : Option (List ℕ)

abbrev pub streams : Option (List ℕ) → Option (List ℕ) → Streams
streams left holds = record { left = left; holds = holds }

-- between the two these bytes were read, and those written
pub record Passed (before after : Streams) (input written : List ℕ) : Type 0 where
  pub read : Consumes before.left after.left input
  pub wrote : Appends before.holds after.holds written
