-- What all of an input prints, once its complete lines are answered. Assumes nothing.
use mathlib.Core.Path.{◌≡◌, refl, sym, ap, ◌∙◌}
use mathlib.Core.Bool.{true, false}
use mathlib.Core.List.{List, [], ◌∷◌, ◌++◌, append_assoc, append-nil}
use Prim.Native.Nat.{ℕ, ◌+◌, ◌-◌, ◌≤◌, ◌<◌}
use native.Mathlib.Omega.{arith}
use lib.Dec.{eqb}
use lib.ListN.{length, take, drop, length-drop, length-append, drop_of_length-le}
use lib.Seq.{take_at, length-take-le}
use borrow.Author.Tests.{ltb-true}
use borrow.Author.Rules.{part_to_end}
use Rattle.std.specs.Prelude.{replicate, pos, Option, IfSome, IsSome}
use Rattle.laws.proofs.Tests.{by_cases}
use Rattle.decimal.specs.Bytes.{lf}
use Rattle.settings.specs.Settings.{blank}
use Rattle.settings.specs.declared.Settings.{Settings}
use Rattle.tallies.specs.Memory.{zeros}
use Rattle.line.specs.Line.{fresh_line}
use Rattle.line.specs.declared.line.Line.{Line}
use Rattle.line.specs.State.{State, state, fresh_state}
use Rattle.text.specs.Read.{read_line}
use Rattle.controller.specs.Answer.{answer_room, no_room, put_at}
use Rattle.controller.specs.Serve.{answer_to, serving}
use Rattle.controller.specs.Input.{last_line, lines_from, answers_to, printed, program}
use Rattle.controller.proofs.Lines.{lines_end, lines_other, answers_none, answers_one}
use Rattle.blocks.specs.Lines.{NoLf}
use Rattle.blocks.proofs.Ends.{at-lf, before-lf}
use Rattle.sessions.proofs.Answered.{AnsweredUpTo}
use Rattle.controller_c.specs.Answers.{Printed}

pub fresh : (l : Line) (b : Settings) → l ≡ fresh_line → b ≡ blank → state l (replicate 100 b) (replicate 3400 (pos 0)) ≡ fresh_state
unfolding zeros
fresh l b is-l is-b = rw (is-l, is-b) refl

-- a line that the end of the input ends, where some bytes of it stand before
last_from : (before bs : List ℕ) → NoLf bs → lines_from before bs ≡ last_line (before ++ bs)
last_from before [] h = rw (append-nil before) (lines_end before)
last_from before (b ∷ s) h =
    by_cases (eqb b lf)
    (λ y. absurd (omega (arith, h, at-lf b s y)))
    (λ n. lines_other before b s n ∙ last_from (before ++ b ∷ []) s (omega (arith, h, before-lf b s n)) ∙ ap last_line (append_assoc before (b ∷ []) s))

prints_none : (s : State) → printed s [] ≡ []
prints_none s = ap (answers_to s) (lines_end []) ∙ answers_none s

prints_last : (s : State) (bs : List ℕ) → 0 < length bs → NoLf bs → printed s bs ≡ answer_to s (read_line bs)
prints_last s [] some h = absurd (omega (arith, some))
prints_last s (b ∷ t) some h =
    let answer = answer_to s (read_line (b ∷ t)) in
    ap (answers_to s) (last_from [] (b ∷ t) h) ∙ answers_one s (b ∷ t) [] ∙ ap (λ (l : List ℕ). answer ++ l) (answers_none _) ∙ append-nil answer

-- an answer behind the first bytes of the output
module _ (at : ℕ) (text out : List ℕ) (free : at ≤ length out) where
  abbrev behind : List ℕ
  behind = drop (length text) (drop at out)

  put : put_at at text out ≡ (take at out ++ text) ++ behind
  unfolding put_at
  put = sym (append_assoc (take at out) text behind)

  size : length (take at out ++ text) ≡ at + length text
  size = length-append (take at out) text ∙ rw (length-take-le at out free) refl

  puts : take (at + length text) (put_at at text out) ≡ take at out ++ text
  puts = rw put (take_at (take at out ++ text) behind (at + length text) size)

  within : at + length text ≤ length (put_at at text out)
  within = let n = length-append (take at out ++ text) behind in rw put (omega (arith, n, size))

-- behind the complete lines, as many as have room for their answers
module _ {s : State} {input out : List ℕ} {t : State} {start at : ℕ} (new : s ≡ fresh_state) (a : AnsweredUpTo s input out t start at) where
  abbrev left : List ℕ
  left = drop start input

  begun : program input ≡ take at out ++ printed t left
  unfolding program
  begun =
      let says : printed s (input ++ []) ≡ take at out ++ printed t (left ++ []) = a.said.says [] in
      rw (append-nil input, append-nil left, new) at says

  -- no more is left
  pub none_left : length input ≤ start → Printed input out at
  none_left h = (a.said.fits, sym (begun ∙ rw (drop_of_length-le input h, prints_none t) (append-nil (take at out))))

  -- the last line
  module _ (some : start < length input) where
    abbrev last : List ℕ
    last = answer_to t (read_line left)

    all : no_room (length out) at ≡ false → program input ≡ take at out ++ last
    all n = let k = length-drop start input in begun ∙ ap (λ (l : List ℕ). take at out ++ l) (prints_last t left (omega (arith, k, some)) (a.all n))

    too_long : no_room (length out) at ≡ true → length out < length (program input) + answer_room
    too_long y =
        let short = ltb-true (length out) (at + answer_room) y in
        let n : length (program input) ≡ length (take at out) + length (printed t left) = ap length begun ∙ length-append (take at out) (printed t left) in
        let k = length-take-le at out a.said.fits in
        omega (arith, short, n, k)

    pub last_served : (r : Option ℕ) (us : List ℕ) → let served = serving t (read_line (take (length input - start) left)) out at in
        r ≡ served.at → us ≡ served.out → IfSome r (Printed input us) × (length (program input) + answer_room ≤ length out → IsSome r)
    unfolding serving
    last_served r us e o =
        let whole = part_to_end input start in
        by_cases
        (no_room (length out) at)
        (λ y. let long = too_long y in rw (e, o, whole, y) (tt, λ room. absurd (omega (arith, long, room))))
        (λ n. rw (e, o, whole, n) ((within at last out a.said.fits, puts at last out a.said.fits ∙ sym (all n)), λ room. refl))
