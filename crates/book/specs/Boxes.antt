-- 01, "For demand 3, over the replies (refused: detected and outcome 0)": the balance of the boxes.
use Rattle.std.specs.Prelude.{ℕ, ◌+◌, ◌&&◌, ◌||◌, not, List, [], ◌∷◌, eqb, Ok, Err}
use Rattle.laws.specs.Choice.{when◌then◌else◌, within, bit}
use Rattle.event.specs.Reply.{Reply}
use Rattle.verdict.specs.Verdict.{lolo, foreign, two_on, crash}
use Rattle.book.specs.Book.{Turn}

abbrev pub detected_by : Reply → ℕ
detected_by (Err r) = 0
detected_by (Ok d) = d.detected

abbrev pub outcome_of : Reply → ℕ
outcome_of (Err r) = 0
outcome_of (Ok d) = d.outcome

-- a number of each reply, added up
unfoldable pub sum_over : (Reply → ℕ) → List Turn → ℕ
sum_over f [] = 0
sum_over f (t ∷ h) = f t.reply + sum_over f h

-- "detected adds up that field"
abbrev pub detected_in : List Turn → ℕ
detected_in h = sum_over detected_by h

-- "judged counts outcomes 1 to 6 and 8"
abbrev pub is_judged : ℕ → ℕ
is_judged o = bit (within lolo foreign o || eqb o crash)

abbrev pub judged_in : List Turn → ℕ
judged_in h = sum_over (λ r. is_judged (outcome_of r)) h

-- "two-on is twice the count of 7, dismissed and abandoned count 9 and 10"
abbrev pub outcomes_in : ℕ → List Turn → ℕ
outcomes_in o h = sum_over (λ r. bit (eqb (outcome_of r) o)) h

-- "In hand is 1 if the last reply with detected or outcome not 0 has detected 1 and outcome not 7, else 0"
unfoldable pub in_hand_after : List Turn → ℕ
in_hand_after [] = 0
in_hand_after (t ∷ h) =
    when eqb (detected_by t.reply) 0 && eqb (outcome_of t.reply) 0 then in_hand_after h
    else bit (eqb (detected_by t.reply) 1 && not (eqb (outcome_of t.reply) two_on))
