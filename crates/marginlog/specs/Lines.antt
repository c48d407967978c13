-- What a call prints: `outcomes=` and the names of the possible ones, in the order of their numbers with commas between; or its refusal.
use Rattle.std.specs.Prelude.{ℕ, ◌≡◌, Bool, not, List, [], ◌∷◌, ◌++◌, ℤ, length, Option, None, Some}
use Rattle.laws.specs.Choice.{when◌then◌else◌}
use Rattle.mask.specs.Bits.{bit_set}
use Rattle.settings.specs.Settings.{is_code}
use Rattle.settings.specs.declared.Settings.{Settings}
use Rattle.decimal.specs.Bytes.{bytes}
use Rattle.print.specs.Text.{line_end, field, joined}
use Rattle.print.specs.Reply.{refused_text, reply_room}
use Rattle.print.specs.Written.{length_written, buffer_after}
use Rattle.possible.specs.Answer.{count_fits, number_of, refusal_of, IsSet}
use Rattle.possible.specs.declared.Refusal.{Refusal}
use Rattle.possible.specs.declared.Refusal.TheVariants.{Samples, Value}

-- the name of an outcome, and whether it is possible
pub record Named : Type 0 where
  pub possible : Bool
  pub name : List ℕ

-- 01's names of outcomes 1 to 5 and 9
abbrev pub outcome_names : ℕ → List Named
outcome_names mask =
    record { possible = bit_set mask 1; name = bytes "lolo" }
    ∷ record { possible = bit_set mask 2; name = bytes "lo" }
    ∷ record { possible = bit_set mask 3; name = bytes "ok" }
    ∷ record { possible = bit_set mask 4; name = bytes "hi" }
    ∷ record { possible = bit_set mask 5; name = bytes "hihi" }
    ∷ record { possible = bit_set mask 9; name = bytes "dismissed" }
    ∷ []

-- the names of the possible ones
abbrev pub possible_ones : List Named → List (List ℕ)
possible_ones [] = []
possible_ones (n ∷ ns) = when n.possible then n.name ∷ possible_ones ns else possible_ones ns

unfoldable pub outcomes_text : ℕ → List ℕ
outcomes_text mask = field "outcomes" (joined (bytes ",") (possible_ones (outcome_names mask))) ++ line_end

-- the store line's code is a field like any other: 2 if it is out of range, behind 15; else the call's own refusal
unfoldable pub refusal_at : List ℤ → ℕ → ℕ → Settings → Option Refusal
refusal_at xs e code s =
    when not (count_fits (length xs)) then Some Samples
    else (when not (is_code code) then Some Value else refusal_of xs e s)

pub data Prints (xs : List ℤ) (e code : ℕ) (s : Settings) : List ℕ → Type 0 where
  possible : (mask : ℕ) → refusal_at xs e code s ≡ None → IsSet s e xs mask → Prints xs e code s (outcomes_text mask)
  refused : {r : Refusal} → refusal_at xs e code s ≡ Some r → Prints xs e code s (refused_text (number_of r) 0)

-- it stands at the front of a buffer that has room for a reply, and n is its length
pub record Printed (xs : List ℤ) (e code : ℕ) (s : Settings) (before after : List ℕ) (n : ℕ) : Type 0 where
  pub text : List ℕ
  pub prints : Prints xs e code s text
  pub end : n ≡ length_written reply_room text before
  pub output : after ≡ buffer_after reply_room text before
