-- `serve` leaves what `serving` says: nothing new without room, and else the step of an event, or the answer to other text. Assumes nothing.
use borrow.Author.Rules.{rules}
use borrow.Author.Tests.{ltb-false}
use mathlib.Core.Path.{◌≡◌, refl, sym, ◌∙◌, ap}
use mathlib.Core.Bool.{true, false}
use mathlib.Core.List.{List}
use native.Mathlib.Omega.{arith}
use Prim.Native.Nat.{ℕ, ◌+◌, ◌-◌, ◌<◌, ◌≤◌, ◌^◌}
use borrow.Rule.Slice.PartMut.{put_mid}
use lib.IntN.{ℤ}
use lib.ListN.{length}
use Rattle.std.specs.Prelude.{Option, None, Some}
use Rattle.settings.specs.declared.Settings.{Settings}
use Rattle.event.specs.Reply.{Reply}
use Rattle.event.specs.declared.Event.{Event}
use Rattle.line.specs.declared.line.Line.{Line}
use Rattle.line.specs.State.{state}
use Rattle.line.specs.Step.{step_on}
use Rattle.print.specs.Reply.{reply_text, reply_room}
use Rattle.print.specs.Written.{put_text}
use Rattle.text.specs.declared.Read.{Read}
use Rattle.text.specs.declared.Read.TheVariants as said
use Rattle.text.specs.Read.{read_line}
use Rattle.sheet.specs.Report.{report_on}
use Rattle.controller.specs.Answer.{answer_room, no_room, report_answer, refused_answer, put_at}
use Rattle.controller.specs.Serve.{answer_to, state_after, Serving, serving}
use Rattle.controller.proofs.Behind.{part, behind, ends, writes, fits}
use Rattle.controller.proofs.serve.Goals as goal

none_said : (r : Option Read) → ((x : Read) → r ≡ Some x → ⊥) → r ≡ None
none_said None never = refl
none_said (Some x) never = absurd (never x refl)

-- there is room for an answer
roomy : (size at : ℕ) → no_room size at ≡ false → at + answer_room ≤ size
roomy size at h = ltb-false size (at + answer_room) h

-- what a line of text leaves: the line, the records, the tallies and the answer
record After (r : Option Read) (l : Line) (ss : List Settings) (ts : List ℤ) (next : Line) (records : List Settings) (tallies : List ℤ) (a : List ℕ) : Type 0 where
  line : next ≡ (state_after (state l ss ts) r).line
  stored : records ≡ (state_after (state l ss ts) r).settings
  tallied : tallies ≡ (state_after (state l ss ts) r).tallies
  answer : a ≡ answer_to (state l ss ts) r

-- what a call leaves and answers
record Is (t : Serving) (at : Option ℕ) (l : Line) (ss : List Settings) (ts : List ℤ) (out : List ℕ) : Type 0 where
  answer : at ≡ t.at
  line : l ≡ t.state.line
  settings : ss ≡ t.state.settings
  memory : ts ≡ t.state.tallies
  output : out ≡ t.out

module _ (l : Line) (ss : List Settings) (ts : List ℤ) (r : Option Read) (out : List ℕ) (at : ℕ) where
  full : no_room (length out) at ≡ true → Is (serving (state l ss ts) r out at) None l ss ts out
  unfolding serving
  full h = rw h (record { answer = refl; line = refl; settings = refl; memory = refl; output = refl })

  -- with the answer x, at the next line; `ys` is what the part behind the answers holds then
  free : no_room (length out) at ≡ false → (next : Line) (xs : List Settings) (ws : List ℤ) (x : List ℕ) → After r l ss ts next xs ws x
      → (n : ℕ) (ys : List ℕ) → n ≡ length x → ys ≡ put_text x (part at x out)
      → Is (serving (state l ss ts) r out at) (Some (at + n)) next xs ws (put_mid at (length out - at) out ys)
  unfolding serving
  free h next xs ws x k n ys long put =
      rw (h, long, behind at x out ys put) (record { answer = rw k.answer refl; line = k.line; settings = k.stored; memory = k.tallied; output = ap (λ (a : List ℕ). put_at at a out) k.answer })

  after_event : (e : Event) → r ≡ Some (said.Event e) → (next : Line) (xs : List Settings) (ws : List ℤ) (made : Reply)
      → next ≡ (step_on (state l ss ts) e).state.line → xs ≡ (step_on (state l ss ts) e).state.settings → ws ≡ (step_on (state l ss ts) e).state.tallies
      → made ≡ (step_on (state l ss ts) e).reply → After r l ss ts next xs ws (reply_text made)
  unfolding state_after answer_to
  after_event e p next xs ws made d d₁ d₂ d₃ = rw (p, d, d₁, d₂, d₃) (record { line = refl; stored = refl; tallied = refl; answer = refl })

  after_report : (code : ℕ) → r ≡ Some (said.Report code) → After r l ss ts l ss ts (report_answer code (report_on ss ts code))
  unfolding state_after answer_to
  after_report code p = rw p (record { line = refl; stored = refl; tallied = refl; answer = refl })

  after_none : r ≡ None → After r l ss ts l ss ts (refused_answer (length ss) ts)
  unfolding state_after answer_to
  after_none p = rw p (record { line = refl; stored = refl; tallied = refl; answer = refl })

pub overflow_add-result-in-Event : goal.overflow_add-result-in-Event
overflow_add-result-in-Event c =
    let a = c.args in
    let w = c.reply_line in
    let room = roomy (length a.out.now) a.at (sym c.no_room.ensures ∙ c.if-no_room.false) in
    let h = fits a.at (reply_text c.advance-reply.result) a.out.now reply_room (omega (arith, room)) w.result w.new.out w.ensures.value w.ensures.out_after w.auto.out in
    let k : length a.out.now < 2 ^ 64 = search rules in
    record { fits = omega (arith, h, k) }

pub returns-then-no_room : goal.returns-then-no_room
returns-then-no_room c =
    let a = c.args in
    let is = full a.line.now a.records.now a.tallies.now (read_line a.text.now) a.out.now a.at (sym c.no_room.ensures ∙ c.if-no_room.true) in
    record { answer = is.answer; line = is.line; settings = is.settings; memory = is.memory; output = is.output }

pub returns-in-Event : goal.returns-in-Event
returns-in-Event c =
    let a = c.args in
    let r = c.read_line.result in
    let s = c.advance-reply in
    let w = c.reply_line in
    let text = reply_text s.result in
    let some = sym c.no_room.ensures ∙ c.if-no_room.false in
    let room : a.at + reply_room ≤ length a.out.now = let h = roomy (length a.out.now) a.at some in omega (arith, h) in
    let says : r ≡ Some (said.Event c.in-Event.e) = c.in-Some.is ∙ ap (λ (x : Read). Some x) c.in-Event.is in
    let k = after_event a.line.now a.records.now a.tallies.now r a.out.now a.at c.in-Event.e says s.new.self s.new.records s.new.tallies s.result s.ensures.line s.ensures.settings s.ensures.memory s.ensures.reply in
    let is = free a.line.now a.records.now a.tallies.now r a.out.now a.at some s.new.self s.new.records s.new.tallies text k w.result w.new.out
    (ends a.at text a.out.now reply_room room w.result w.ensures.value) (writes a.at text a.out.now reply_room room w.new.out w.ensures.out_after) in
    rw (← c.read_line.ensures) (record { answer = is.answer; line = is.line; settings = is.settings; memory = is.memory; output = is.output })

pub returns-in-Report : goal.returns-in-Report
returns-in-Report c =
    let a = c.args in
    let r = c.read_line.result in
    let code = c.in-Report.code in
    let says : r ≡ Some (said.Report code) = c.in-Some.is ∙ ap (λ (x : Read). Some x) c.in-Report.is in
    let k = after_report a.line.now a.records.now a.tallies.now r a.out.now a.at code says in
    let wrote = rw c.report-report.ensures at c.put_report.ensures in
    let is = free a.line.now a.records.now a.tallies.now r a.out.now a.at (sym c.no_room.ensures ∙ c.if-no_room.false) a.line.now a.records.now a.tallies.now
    (report_answer code (report_on a.records.now a.tallies.now code)) k c.put_report.result c.put_report.new.out wrote.length wrote.output in
    rw (← c.read_line.ensures) (record { answer = is.answer; line = is.line; settings = is.settings; memory = is.memory; output = is.output })

pub returns-in_default : goal.returns-in_default
returns-in_default c =
    let a = c.args in
    let r = c.read_line.result in
    let w = c.put_refused in
    let k = after_none a.line.now a.records.now a.tallies.now r a.out.now a.at (none_said r c.in_default.not-Some) in
    let is = free a.line.now a.records.now a.tallies.now r a.out.now a.at (sym c.no_room.ensures ∙ c.if-no_room.false) a.line.now a.records.now a.tallies.now
    (refused_answer (length a.records.now) a.tallies.now) k w.result w.new.out w.ensures.length w.ensures.output in
    rw (← c.read_line.ensures) (record { answer = is.answer; line = is.line; settings = is.settings; memory = is.memory; output = is.output })
