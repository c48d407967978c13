-- What a call prints: each pair as `verdict= signal=`, then `pairs= missing= extra=`, or its refusal. Fields stand as in 01, "Text lines".
use Rattle.std.specs.Prelude.{ℕ, ◌+◌, ◌*◌, ◌≡◌, List, [], ◌∷◌, ◌++◌, None, Some}
use Rattle.decimal.specs.Bytes.{bytes}
use Rattle.decimal.specs.Number.{decimal}
use Rattle.print.specs.Text.{line_end, field, joined}
use Rattle.print.specs.Reply.{refused_text}
use Rattle.print.specs.Written.{length_written, buffer_after}
use Rattle.pairing.specs.Pairing.{Pair}
use Rattle.pairing.specs.Answer.{longest_list, number_of, refusal_of, Largest, Counted}
use Rattle.pairing.specs.declared.Counts.{Counts}
use Rattle.pairing.specs.declared.Refusal.{Refusal}

unfoldable pub pair_text : ℕ → ℕ → List ℕ
pair_text v t = joined (bytes " ") (field "verdict" (decimal v) ∷ field "signal" (decimal t) ∷ []) ++ line_end

abbrev pub pairs_text : List Pair → List ℕ
pairs_text [] = []
pairs_text (p ∷ ps) = pair_text p.verdict p.signal ++ pairs_text ps

unfoldable pub counts_text : Counts → List ℕ
counts_text c =
    joined (bytes " ")
    (field "pairs" (decimal c.pairs) ∷ field "missing" (decimal c.missing) ∷ field "extra" (decimal c.extra) ∷ [])
    ++ line_end

-- what a call prints that is lent a buffer for so many numbers: a largest pairing, which one is free, and its counts; or its refusal
pub data Prints (vs ts : List ℕ) (a b room : ℕ) : List ℕ → Type 0 where
  paired : {ps : List Pair} {c : Counts} → refusal_of vs ts a b room ≡ None → Largest vs ts a b ps → Counted vs ts ps c → Prints vs ts a b room (pairs_text ps ++ counts_text c)
  refused : {r : Refusal} → refusal_of vs ts a b room ≡ Some r → Prints vs ts a b room (refused_text (number_of r) 0)

-- no line of a pair is longer, and no line of the counts
abbrev pub pair_room : ℕ
pair_room = 57

abbrev pub counts_room : ℕ
counts_room = 83

-- a buffer of at least so many bytes has room for what a call prints
abbrev pub call_room : ℕ
call_room = pair_room * longest_list + counts_room

-- it stands at the front of such a buffer, and n is its length
pub record Printed (vs ts : List ℕ) (a b room : ℕ) (before after : List ℕ) (n : ℕ) : Type 0 where
  pub text : List ℕ
  pub prints : Prints vs ts a b room text
  pub end : n ≡ length_written call_room text before
  pub output : after ≡ buffer_after call_room text before
