-- What is answered of a block, by what an input prints: the answers are what its lines print, and with room for an answer no complete line is left. Assumes nothing.
use mathlib.Core.Path.{◌≡◌, refl, sym, ap, ◌∙◌}
use mathlib.Core.Bool.{false}
use mathlib.Core.List.{List, ◌++◌, append_assoc}
use Prim.Native.Nat.{ℕ, zero, suc, ◌+◌, ◌-◌, ◌≤◌, ◌<◌}
use native.Mathlib.Omega.{arith}
use lib.Dec.{ltb}
use lib.IntN.{ℤ}
use lib.ListN.{length, take, drop, length-append}
use lib.Seq.{length-take-le, take_at}
use borrow.Author.Tests.{ltb-true, ltb-false}
use Rattle.std.specs.Prelude.{Option, None, Some}
use Rattle.laws.proofs.Tests.{by_cases, never}
use Rattle.line.specs.State.{State, state}
use Rattle.line.specs.declared.line.Line.{Line}
use Rattle.settings.specs.declared.Settings.{Settings}
use Rattle.text.specs.Read.{read_line}
use Rattle.text.specs.declared.Read.{Read}
use Rattle.controller.specs.Answer.{no_room, put_at}
use Rattle.controller.specs.Serve.{answer_to, state_after, serving}
use Rattle.controller.specs.Input.{printed}
use Rattle.blocks.specs.Lines.{NoLf, end_from}
use Rattle.sessions.specs.Sessions.{Answered, answering}
use Rattle.sessions.specs.declared.block.Block.{Block}
use Rattle.sessions.proofs.Prints.{prints-line}
use Rattle.sessions.proofs.Goes.{rest, full, none-complete, rest_none, line-size, complete, next_place, rest_full, rest_goes}

-- from the state s the bytes print this text, and then what the bytes left do from the state t, whatever is read behind them
abbrev pub Says : State → List ℕ → State → List ℕ → List ℕ → Type 0
Says s bytes t left text = (more : List ℕ) → printed s (bytes ++ more) ≡ text ++ printed t (left ++ more)

-- the first at bytes of the output are what the bytes print, but for those from start on
pub record Said (s : State) (bytes out : List ℕ) (t : State) (start at : ℕ) : Type 0 where
  pub place : start ≤ length bytes
  pub fits : at ≤ length out
  pub says : Says s bytes t (drop start bytes) (take at out)

-- and with room for an answer no complete line of text is left there
pub record AnsweredUpTo (s : State) (bytes out : List ℕ) (t : State) (start at : ℕ) : Type 0 where
  pub said : Said s bytes out t start at
  pub all : no_room (length out) at ≡ false → NoLf (drop start bytes)

-- `serve` answered
answered : (s : State) (r : Option Read) (out : List ℕ) (at next : ℕ) → Some next ≡ (serving s r out at).at
    → serving s r out at ≡ record { state = state_after s r; out = put_at at (answer_to s r) out; at = Some (at + length (answer_to s r)) }
unfolding serving
answered s r out at next e = by_cases (no_room (length out) at) (λ y. let e = rw y at e in cc) (λ n. rw n refl)

-- an answer behind the first bytes of the output
module _ (at : ℕ) (text us : List ℕ) (free : at ≤ length us) where
  abbrev behind : List ℕ
  behind = drop (length text) (drop at us)

  abbrev front : length (take at us) ≡ at
  front = length-take-le at us free

  put : put_at at text us ≡ (take at us ++ text) ++ behind
  unfolding put_at
  put = sym (append_assoc (take at us) text behind)

  size : length (take at us ++ text) ≡ at + length text
  size = length-append (take at us) text ∙ rw front refl

  puts : take (at + length text) (put_at at text us) ≡ take at us ++ text
  puts = rw put (take_at (take at us ++ text) behind (at + length text) size)

  within : at + length text ≤ length (put_at at text us)
  within = let n = length-append (take at us ++ text) behind in rw put (omega (arith, n, size))

by_answer : {A : Type 0} (o : Option ℕ) → (None ≡ o → A) → ((next : ℕ) → Some next ≡ o → A) → A
by_answer None stays goes = stays refl
by_answer (Some next) stays goes = goes next refl

module _ (p : State) (bytes : List ℕ) where
  -- the complete line of text from start on is answered
  module _ (start : ℕ) (h : end_from bytes start < length bytes) where
    abbrev text : List ℕ
    text = take (end_from bytes start - start) (drop start bytes)

    line-prints : (s : State) (more : List ℕ)
        → printed s (drop start bytes ++ more) ≡ answer_to s (read_line text) ++ printed (state_after s (read_line text)) (drop (end_from bytes start + 1) bytes ++ more)
    line-prints s more =
        let end = end_from bytes start in
        rw (← line-size bytes start end refl h, ← next_place bytes start end refl h) (prints-line s (drop start bytes) more (complete bytes start end refl h))

    said-goes : (s : State) (out : List ℕ) (at : ℕ) → Said p bytes out s start at → (next : ℕ) → Some next ≡ (serving s (read_line text) out at).at
        → Said p bytes (serving s (read_line text) out at).out (serving s (read_line text) out at).state (end_from bytes start + 1) next
    said-goes s out at said next e =
        let answer = answer_to s (read_line text) in
        let is = answered s (read_line text) out at next e in
        let size : next ≡ at + length answer = let k = rw is at e in cc in
        rw (is, size) (record {
          place = omega (arith, h);
          fits = within at answer out said.fits;
          says = λ more. said.says more ∙ ap (λ (t : List ℕ). take at out ++ t) (line-prints s more) ∙ sym (append_assoc (take at out) answer _) ∙ rw (puts at answer out said.fits) refl;
        })

  abbrev UpTo : Answered → Type 0
  UpTo a = AnsweredUpTo p bytes a.out a.state a.block.start a.block.at

  none-left : (s : State) (out : List ℕ) (start at : ℕ) → Said p bytes out s start at → length bytes ≤ end_from bytes start → UpTo (rest s bytes out start at)
  none-left s out start at said over = rw (rest_none s bytes out start at said.place over) (record { said = said; all = λ _. none-complete bytes start said.place over })

  -- what is left is answered, in at most so many lines
  rest-says : (lines : ℕ) (s : State) (out : List ℕ) (start at : ℕ) → length bytes ≤ start + lines → Said p bytes out s start at → UpTo (rest s bytes out start at)
  rest-says zero s out start at h said = none-left s out start at said (omega (arith, h))
  rest-says (suc lines) s out start at h said =
      let end = end_from bytes start in
      let t = read_line (take (end - start) (drop start bytes)) in
      by_cases (ltb end (length bytes))
      (λ y.
      let ends = ltb-true end (length bytes) y in
      by_answer (serving s t out at).at
      (λ e.
      let stays = full s t out at e in
      rw (rest_full bytes start end refl ends s out at e, stays.1) (record { said = said; all = λ r. never (sym r ∙ stays.0) }))
      (λ next e.
      rw (rest_goes bytes start end refl ends s out at next e)
      (rest-says lines (serving s t out at).state (serving s t out at).out (end + 1) next (omega (arith, h)) (said-goes start ends s out at said next e))))
      (λ n. none-left s out start at said (ltb-false end (length bytes) n))

pub answered-up-to : (s : State) (block out : List ℕ)
    → AnsweredUpTo s block (answering s block out).out (answering s block out).state (answering s block out).block.start (answering s block out).block.at
answered-up-to s block out = rest-says s block (length block) s out 0 0 (omega arith) (record { place = omega arith; fits = omega arith; says = λ more. refl })

-- the same of what `serve_block` ensures, clause by clause
module _ (s : State) (block out : List ℕ) (r : Block) (l : Line) (ss : List Settings) (ts : List ℤ) (after : List ℕ) (e : r ≡ (answering s block out).block)
    (f : l ≡ (answering s block out).state.line) (g : ss ≡ (answering s block out).state.settings) (h : ts ≡ (answering s block out).state.tallies)
    (k : after ≡ (answering s block out).out) where
  pub as_answered : AnsweredUpTo s block after (state l ss ts) r.start r.at
  as_answered = rw (e, f, g, h, k) (answered-up-to s block out)

-- so the answers end within the output
pub ends_within : (s : State) (block out after : List ℕ) (r : Block) → r ≡ (answering s block out).block → after ≡ (answering s block out).out → r.at ≤ length after
ends_within s block out after r e f = rw (e, f) (answered-up-to s block out).said.fits
