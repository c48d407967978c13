-- What such a program prints over an input; what was read and what was written, turn by turn, and how it ends. The input is what its reader gives, and what is written is what its writer takes, where it is known which bytes they have.
use Rattle.std.specs.Prelude.{ℕ, ◌+◌, ◌-◌, ◌*◌, ◌^◌, ◌<◌, ◌≤◌, ◌≡◌, Bool, true, List, [], ◌∷◌, ◌++◌, Option, None, Some, map, length, take, drop}
use Rattle.std.specs.Io.KnownBytes.{Appends, IsAtEnd}
use Rattle.laws.specs.Choice.{when◌then◌else◌}
use Rattle.controller.specs.Input.{lines_of}
use Rattle.blocks.specs.Lines.{NoLf}
use Rattle.blocks.specs.Left.{last_of, EndSeen}
use Rattle.blocks.specs.Known.{Streams, Passed}
use Rattle.blocks.specs.declared.left.Left.{Left}
use Rattle.blocks.specs.declared.output.Taken.{Taken}
use Rattle.calls.specs.Service.{Service, placed, after_line, SaysLine}
use Rattle.blocks.specs.declared.ended.Ended.{Ended}
use Rattle.blocks.specs.declared.ended.Ended.TheVariants.{Input, Output, Turns}

-- what a call prints has room in so many bytes, where the program says no room of its own
abbrev pub output_room : ℕ
output_room = 262144

-- what the lines of an input say
abbrev pub entries_of : (p : Service) → List ℕ → List (Option p.Entry)
entries_of p input = map p.reads (lines_of input)

-- what they print from a state on: each in its turn, and the end
pub data Printing (p : Service) : p.State → List (Option p.Entry) → List ℕ → Type 0 where
  ended : {s : p.State} {text : List ℕ} → p.Closes s text → Printing p s [] text
  line : {s : p.State} {e : Option p.Entry} {es : List (Option p.Entry)} (first rest : List ℕ)
      → SaysLine p s e first → Printing p (after_line p s e) es rest → Printing p s (e ∷ es) (first ++ rest)

-- the program prints this text over an input
abbrev pub Program : Service → List ℕ → List ℕ → Type 0
Program p input text = Printing p p.start (entries_of p input) text

-- these bytes were read and those written: what the bytes left print from the state s on, with whatever may still be read behind them, the program prints behind what was written. Once no more will come, what is left ends with an LF. A turn goes past a line of what is left, or reads some bytes, or comes to the end: so there are at most two for each byte that was read, and two more
pub record Traced (p : Service) (before now : Streams) (s : p.State) (left : List ℕ) (last : Bool) (turns : ℕ) : Type 0 where
  pub input : List ℕ
  pub written : List ℕ
  pub passed : Passed before now input written
  pub prints : (more text : List ℕ) → (last ≡ true → more ≡ []) → Printing p s (entries_of p (left ++ more)) text → Program p (input ++ more) (written ++ text)
  pub closed : last ≡ true → (k : ℕ) → NoLf (drop k left) → drop k left ≡ []
  pub turned : turns + length left ≤ 2 * length input + (when last then 2 else 0)

-- what was written is what the program prints over the bytes that were read
pub record Whole (p : Service) (before now : Streams) : Type 0 where
  pub input : List ℕ
  pub written : List ℕ
  pub passed : Passed before now input written
  pub whole : Program p input written

-- what was written, with what is due behind it, is the beginning of it: the rest is what the bytes left print. Of what is due so many bytes were taken
pub record Begun (p : Service) (before now : Streams) (due : List ℕ) (taken : ℕ) : Type 0 where
  pub input : List ℕ
  pub written : List ℕ
  pub passed : Passed before now input (written ++ take taken due)
  pub state : p.State
  pub left : List ℕ
  pub begun : (text : List ℕ) → Printing p state (entries_of p left) text → Program p input ((written ++ due) ++ text)

-- of what was due `write` did not take all
pub record CutShort (t : Taken) : Type 0 where
  pub due : List ℕ
  pub size : length due ≡ t.of
  pub less : t.taken < t.of

-- no more input will come, and all is printed; or `write` did not take all; or all turns were made, which a shorter input than this cannot use up. Where the input has ended, the reader has no more
abbrev pub EndsSo : Service → Streams → Streams → Ended → Type 0
EndsSo p before now (Input left) = (last_of left ≡ true) × (EndSeen left → IsAtEnd now.left) × Whole p before now
EndsSo p before now (Output taken) = (c : CutShort taken) × Begun p before now c.due taken.taken
EndsSo p before now (Turns turns) = (turns ≡ 2 ^ 64 - 1) × ((b : Begun p before now [] 0) × (2 ^ 63 - 1 ≤ length b.input))

-- ---- the steps

-- a line in the state s, and what is left: a number of bytes at the front of the output are printed; none where the line says nothing or what has no place
abbrev pub Answers : (p : Service) → p.State → Option p.Entry → p.State → List ℕ → Option ℕ → Type 0
Answers p s said s' out None = (placed p s said ≡ None) × (s' ≡ s)
Answers p s said s' out (Some n) = (s' ≡ after_line p s said) × (n ≤ length out) × SaysLine p s said (take n out)

-- the text is that of the end, and all of it was taken, or not; the writer holds what was taken
abbrev pub Finished : (p : Service) → p.State → Left → Option (List ℕ) → Option (List ℕ) → Ended → Type 0
Finished p s left before now (Input l) = (l ≡ left) × ((text : List ℕ) × p.Closes s text × Appends before now text)
Finished p s left before now (Output taken) = (c : CutShort taken) × p.Closes s c.due × Appends before now (take taken.taken c.due)
Finished p s left before now (Turns turns) = ⊥
