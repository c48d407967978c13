-- 01, "Text lines": what is answered to a block of the input: each complete line in its turn, until the output has too little room.
use Rattle.std.specs.Prelude.{ℕ, ◌+◌, List, [], ◌∷◌, eqb, length, take, count_by, Option}
use Rattle.std.specs.Option.{option_map, option_map_or}
use Rattle.decimal.specs.Bytes.{lf}
use Rattle.line.specs.State.{State}
use Rattle.text.specs.Read.{read_line}
use Rattle.controller.specs.Serve.{serving}
use Rattle.controller.specs.Input.{lines_of}
use Rattle.sessions.specs.declared.block.Block.{Block}

-- of its lines, "each up to LF or the end", those up to LF: the first, as many as it has LFs
abbrev pub complete_lines : List ℕ → List (List ℕ)
complete_lines block = take (count_by (λ b. eqb b lf) block) (lines_of block)

-- the line and both memories, the output, and how far the block is answered
pub record Answered : Type 0 where
  pub state : State
  pub out : List ℕ
  pub block : Block

-- a line of text is served behind the answers so far, and it is taken with its LF; none where it has too little room
abbrev pub turn : Answered → List ℕ → Option Answered
turn a l =
    let s = serving a.state (read_line l) a.out a.block.at in
    option_map (λ at. record { state = s.state; out = s.out; block = record { start = a.block.start + length l + 1; at = at } }) s.at

-- each line of text in its turn, until one has too little room
unfoldable pub in_turn : Answered → List (List ℕ) → Answered
in_turn a [] = a
in_turn a (l ∷ ls) = option_map_or (λ b. in_turn b ls) (turn a l) a

-- a block from its front on, to the output from its front on
abbrev pub answering : State → List ℕ → List ℕ → Answered
answering s block out = in_turn (record { state = s; out = out; block = record { start = 0; at = 0 } }) (complete_lines block)
