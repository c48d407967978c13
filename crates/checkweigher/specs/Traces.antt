-- What was read and what was written, turn by turn, and how it ends. The input is what its reader gives, and what is written is what its writer takes, where it is known which bytes they have.
use Rattle.std.specs.Prelude.{ℕ, ◌-◌, ◌<◌, ◌^◌, ◌≡◌, Bool, true, List, [], ◌∷◌, ◌++◌, length, take, drop}
use Rattle.std.specs.Io.KnownBytes.{IsAtEnd}
use Rattle.line.specs.State.{State}
use Rattle.blocks.specs.Lines.{NoLf}
use Rattle.blocks.specs.Left.{last_of, EndSeen}
use Rattle.blocks.specs.Known.{Streams, Passed}
use Rattle.blocks.specs.declared.ended.Ended.{Ended}
use Rattle.blocks.specs.declared.ended.Ended.TheVariants.{Input, Output, Turns}
use Rattle.blocks.specs.declared.output.Taken.{Taken}
use Rattle.controller.specs.Input.{printed, program}

-- all that was written, where each turn wrote so much; the last one stands first
unfoldable pub written_in : List (List ℕ) → List ℕ
written_in [] = []
written_in (text ∷ texts) = written_in texts ++ text

-- these bytes were read and those written, in so many turns: with what the bytes left print from the state s, and whatever may still be read behind them, that is what the program prints over the whole. Once no more will come, what is left ends with an LF
pub record Traced (before now : Streams) (s : State) (left : List ℕ) (last : Bool) (turns : ℕ) : Type 0 where
  pub input : List ℕ
  pub written : List (List ℕ)
  pub passed : Passed before now input (written_in written)
  pub turned : length written ≡ turns
  pub prints : (more : List ℕ) → (last ≡ true → more ≡ []) → program (input ++ more) ≡ written_in written ++ printed s (left ++ more)
  pub closed : last ≡ true → (k : ℕ) → NoLf (drop k left) → drop k left ≡ []

-- what was written is what the program prints over the bytes that were read
pub record Whole (before now : Streams) : Type 0 where
  pub input : List ℕ
  pub written : List (List ℕ)
  pub passed : Passed before now input (written_in written)
  pub whole : written_in written ≡ program input

-- what was written in so many turns is the beginning of it
pub record Begun (before now : Streams) (turns : ℕ) : Type 0 where
  pub input : List ℕ
  pub written : List (List ℕ)
  pub passed : Passed before now input (written_in written)
  pub rest : List ℕ
  pub turned : length written ≡ turns
  pub begun : program input ≡ written_in written ++ rest

-- of the bytes that were due behind it, `write` did not take all
pub record CutShort (before now : Streams) (t : Taken) : Type 0 where
  pub input : List ℕ
  pub written : List (List ℕ)
  pub due : List ℕ
  pub passed : Passed before now input (written_in written ++ take t.taken due)
  pub rest : List ℕ
  pub size : length due ≡ t.of
  pub less : t.taken < t.of
  pub begun : program input ≡ (written_in written ++ due) ++ rest

-- no more input will come, and all is printed; or `write` did not take all; or all turns were made. Where the input has ended, the reader has no more
abbrev pub EndsSo : Streams → Streams → Ended → Type 0
EndsSo before now (Input left) = (last_of left ≡ true) × (EndSeen left → IsAtEnd now.left) × Whole before now
EndsSo before now (Output taken) = CutShort before now taken
EndsSo before now (Turns turns) = (turns ≡ 2 ^ 64 - 1) × Begun before now turns
