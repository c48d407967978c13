-- 01, "Text lines": what is answered to a line of text, and where in a lent buffer it is written.
use Rattle.std.specs.Prelude.{ℕ, ◌+◌, Bool, true, false, List, ◌++◌, ltb, ℤ, take, drop, Option, Result, Ok, Err}
use Rattle.refusal.specs.Rows.{lengths_wrong}
use Rattle.refusal.specs.Table.{number_of, number_in, table, first_holding}
use Rattle.refusal.specs.declared.Faults.{Faults}
use Rattle.refusal.specs.declared.Refusal.{Refusal}
use Rattle.sheet.specs.declared.sheet.Sheet.{Sheet}
use Rattle.event.specs.Reply.{Reply}
use Rattle.print.specs.Reply.{reply_text}
use Rattle.print.specs.Sheet.{sheet_text, sheet_room}
use Rattle.print.specs.Written.{put_text}

-- "The reply has the number and input .. (0 but for 5)"
abbrev pub refused_by : Refusal → Reply
refused_by r = Err (record { number = number_of r; input = 0 })

-- the code's sheet, or a report's refusal
abbrev pub report_answer : ℕ → Result Sheet Refusal → List ℕ
report_answer code (Ok sheet) = sheet_text code sheet
report_answer code (Err refusal) = reply_text (refused_by refusal)

-- "A line that reads as no event and no report is refused 1": which conditions of the table hold; "Every call checks both lengths"
abbrev pub text_faults : ℕ → List ℤ → Faults
text_faults count ts =
    record {
      memory = lengths_wrong count ts;
      form = true;
      value = false;
      running = false;
      emergency = false;
      paused = false;
      contradiction = false;
      safety = false;
      occupied = false;
      nothing = false;
    }

abbrev pub text_refusal : ℕ → List ℤ → Option Refusal
text_refusal count ts = first_holding (table (text_faults count ts))

abbrev pub refused_answer : ℕ → List ℤ → List ℕ
refused_answer count ts = reply_text (Err (record { number = number_in (text_refusal count ts); input = 0 }))

-- no answer is longer, in bytes
abbrev pub answer_room : ℕ
answer_room = sheet_room

-- behind the first bytes of a buffer of this length there may be too little room for an answer
abbrev pub no_room : ℕ → ℕ → Bool
no_room length at = ltb length (at + answer_room)

-- a text behind the first bytes of a buffer: they stay, and so does what stands behind it
unfoldable pub put_at : ℕ → List ℕ → List ℕ → List ℕ
put_at at text out = take at out ++ put_text text (drop at out)
