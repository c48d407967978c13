-- From one line of text to the next, where a block stands. Assumes nothing.
use mathlib.Core.Path.{◌≡◌, refl, ap, ◌∙◌}
use mathlib.Core.Bool.{true}
use mathlib.Core.List.{List, ◌∷◌}
use Prim.Native.Nat.{ℕ, ◌+◌, ◌-◌, ◌≤◌, ◌<◌}
use native.Mathlib.Omega.{arith}
use lib.ListN.{length, take, drop, length-drop}
use lib.Seq.{drop-drop, length-take-le}
use Rattle.std.specs.Prelude.{Option, None, Some}
use Rattle.laws.proofs.Tests.{by_cases}
use Rattle.line.specs.State.{State}
use Rattle.text.specs.Read.{read_line}
use Rattle.text.specs.declared.Read.{Read}
use Rattle.controller.specs.Answer.{no_room}
use Rattle.controller.specs.Serve.{serving}
use Rattle.blocks.specs.Lines.{line_length, NoLf, end_from}
use Rattle.blocks.proofs.Ends.{at_most}
use Rattle.sessions.specs.Sessions.{Answered, complete_lines, in_turn}
use Rattle.sessions.proofs.Complete.{complete_none, complete_one}

-- so far
abbrev pub so_far : State → List ℕ → ℕ → ℕ → Answered
so_far s out start at = record { state = s; out = out; block = record { start = start; at = at } }

-- what is left of a block is answered
abbrev pub rest : State → List ℕ → List ℕ → ℕ → ℕ → Answered
rest s input out start at = in_turn (so_far s out start at) (complete_lines (drop start input))

-- where `serve` says so it had too little room, and did nothing
pub full : (s : State) (r : Option Read) (out : List ℕ) (at : ℕ) → None ≡ (serving s r out at).at
    → (no_room (length out) at ≡ true) × (serving s r out at ≡ record { state = s; out = out; at = None })
unfolding serving
full s r out at e = by_cases (no_room (length out) at) (λ y. (y, rw y refl)) (λ n. let e = rw n at e in cc)

-- no line of text is complete where the next one reaches to the input's end
pub none-complete : (input : List ℕ) (start : ℕ) → start ≤ length input → length input ≤ end_from input start → NoLf (drop start input)
none-complete input start h e =
    let n = length-drop start input in
    let m = at_most (drop start input) in
    omega (arith, n, m, h, e)

-- nothing is left
pub rest_none : (s : State) (input out : List ℕ) (start at : ℕ) → start ≤ length input → length input ≤ end_from input start → rest s input out start at ≡ so_far s out start at
unfolding in_turn
rest_none s input out start at h e = rw (complete_none (drop start input) (none-complete input start h e)) refl

-- the line of text from start to end is complete
module _ (input : List ℕ) (start end : ℕ) (ends : end ≡ end_from input start) (h : end < length input) where
  abbrev text : List ℕ
  text = take (end - start) (drop start input)

  pub line-size : line_length (drop start input) ≡ end - start
  line-size = omega (arith, ends)

  pub complete : line_length (drop start input) < length (drop start input)
  complete = let n = length-drop start input in omega (arith, h, n, ends)

  pub next_place : drop (line_length (drop start input) + 1) (drop start input) ≡ drop (end + 1) input
  next_place =
      let place : start + (line_length (drop start input) + 1) ≡ end + 1 = omega (arith, ends) in
      drop-drop (line_length (drop start input) + 1) start input ∙ ap (λ (k : ℕ). drop k input) place

  lines : complete_lines (drop start input) ≡ text ∷ complete_lines (drop (end + 1) input)
  lines = rw (← next_place, ← line-size) (complete_one (drop start input) complete)

  taken : start + length text + 1 ≡ end + 1
  taken =
      let n = length-drop start input in
      let m = length-take-le (end - start) (drop start input) (omega (arith, n, h)) in
      omega (arith, m, ends)

  module _ (s : State) (out : List ℕ) (at : ℕ) where
    -- it has too little room
    pub rest_full : None ≡ (serving s (read_line text) out at).at
        → rest s input out start at ≡ so_far (serving s (read_line text) out at).state (serving s (read_line text) out at).out start at
    unfolding in_turn
    rest_full e = rw (lines, (full s (read_line text) out at e).1) refl

    -- it is answered
    pub rest_goes : (next : ℕ) → Some next ≡ (serving s (read_line text) out at).at
        → rest s input out start at ≡ rest (serving s (read_line text) out at).state input (serving s (read_line text) out at).out (end + 1) next
    unfolding in_turn
    rest_goes next e = rw (lines, ← e, taken) refl
