-- 01, "Text lines": the line of a reply.
use Rattle.std.specs.Prelude.{ℕ, List, [], ◌∷◌, ◌++◌, eqb, Ok, Err}
use Rattle.laws.specs.Choice.{when◌then◌else◌}
use Rattle.event.specs.Reply.{Reply, no_error}
use Rattle.event.specs.declared.reply.Done.{Done}
use Rattle.decimal.specs.Bytes.{bytes}
use Rattle.decimal.specs.Number.{decimal, number_text}
use Rattle.print.specs.Text.{line_end, none, field, joined}

abbrev pub error_text : ℕ → List ℕ
error_text error = when eqb error no_error then none else decimal error

-- what the line shows after the event
abbrev pub shown : Done → List (List ℕ)
shown d =
    field "status" (decimal d.status)
    ∷ field "busy" (decimal d.busy)
    ∷ field "conveyor" (decimal d.conveyor)
    ∷ field "sorter" (decimal d.sorter)
    ∷ []

-- what the event did, and the error after it
abbrev pub did : Done → List (List ℕ)
did d =
    field "detected" (decimal d.detected)
    ∷ field "outcome" (decimal d.outcome)
    ∷ field "net" (number_text d.net)
    ∷ field "tallied" (decimal d.tallied)
    ∷ field "error" (error_text d.error)
    ∷ []

unfoldable pub done_text : Done → List ℕ
done_text d = joined (bytes " ") (shown d ++ did d) ++ line_end

unfoldable pub refused_text : ℕ → ℕ → List ℕ
refused_text number input = joined (bytes " ") (field "refused" (decimal number) ∷ field "input" (decimal input) ∷ []) ++ line_end

abbrev pub reply_text : Reply → List ℕ
reply_text (Ok done) = done_text done
reply_text (Err refused) = refused_text refused.number refused.input

-- a buffer of at least so many bytes has room for it
abbrev pub reply_room : ℕ
reply_room = 256
