-- Demand 3, "one claim over the whole list": `Claim` is what `claim::ledger` ensures.
use Rattle.std.specs.Prelude.{ℕ, ◌+◌, ◌*◌, ◌≤◌, ◌≡◌, ◌≢◌, List, get_or, Ok, Err}
use Rattle.verdict.specs.Verdict as verdict
use Rattle.laws.specs.Choice.{when◌then◌else◌, bit}
use Rattle.settings.specs.Settings.{last_code, blank}
use Rattle.event.specs.declared.Event.{Event}
use Rattle.event.specs.declared.Event.TheVariants.{Cancel}
use Rattle.lists.specs.Counts.{add_up}
use Rattle.tallies.specs.Memory.{part_numbers, part, part_at}
use Rattle.sheet.specs.Sheet.{sheet_of}
use Rattle.sheet.specs.Report.{report_on}
use Rattle.item.specs.Item.{in_hand}
use Rattle.refusal.specs.Table.{memory_no, nothing_no}
use Rattle.event.specs.Reply.{Reply}
use Rattle.book.specs.Book.{tallied_by, book_of}
use Rattle.book.specs.Page.{part_of_page}
use Rattle.claim.specs.Run.{World, run, answer}
use Rattle.book.specs.Boxes.{detected_in, judged_in, outcomes_in, in_hand_after}

-- the refusal number of a reply, 0 if accepted
abbrev pub refusal_in : Reply → ℕ
refusal_in (Err r) = r.number
refusal_in (Ok d) = 0

abbrev pub tallied_in : Reply → ℕ
tallied_in (Err r) = 0
tallied_in (Ok d) = d.tallied

-- what holds after a list of events, and of the reply to any next one
pub record Stands (w : World) : Type 0 where
  -- "What is on a page stands under its code": each code's tally is that of its page, the very numbers of its part; T-05:
  -- "each count is that of the standing graded verdicts in its class"
  pub tallies : (code : ℕ) → code ≤ last_code → part w.state.tallies code ≡ part_numbers (part_of_page ((book_of w.history).pages code))
  -- "The 21 counts add to n after every list of demand 3"
  pub classes : (code : ℕ) → code ≤ last_code → add_up (part_at w.state.tallies code).classes ≡ (part_at w.state.tallies code).tally.n
  -- "For demand 3, over the replies": detected = judged + two-on + dismissed + abandoned + in hand
  pub balance :
      detected_in w.history
      ≡ judged_in w.history + 2 * outcomes_in verdict.two_on w.history + outcomes_in verdict.dismissed w.history + outcomes_in verdict.abandoned w.history + in_hand_after w.history
  -- "the line's item is none exactly at 0"
  pub item : bit (in_hand w.state.line.item) ≡ in_hand_after w.history
  -- "Tallied is 1 exactly when a verdict was put on a page"
  pub tallied : (e : Event) → tallied_in (answer w e).reply ≡ tallied_by (book_of w.history) (answer w e).reply
  -- "a cancel is accepted exactly at a chance"
  pub cancelled : refusal_in (answer w Cancel).reply ≡ (when (book_of w.history).chance then 0 else nothing_no)
  -- each code's sheet is printed, with the figures of the verdicts standing under it in the book
  pub sheets : (code : ℕ) → code ≤ last_code
      → report_on w.state.settings w.state.tallies code
      ≡ Ok (sheet_of (part_of_page ((book_of w.history).pages code)) (get_or w.state.settings code blank).target)
  -- no event of a list is ever refused 8
  pub sound : (e : Event) → refusal_in (answer w e).reply ≢ memory_no

abbrev pub Claim : Type 0
Claim = (events : List Event) → Stands (run events)
