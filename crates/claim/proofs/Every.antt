-- Demand 3: what holds of a fresh line and memory is kept by every event, so it holds after every list. Assumes nothing.
use mathlib.Core.Path.{◌≡◌, refl, sym, ap, ◌∙◌}
use mathlib.Core.Logic.{◌≢◌}
use mathlib.Core.Bool.{true, not, or-true}
use mathlib.Core.List.{List, [], ◌∷◌}
use Prim.Native.Nat.{ℕ, ◌+◌, ◌*◌, ◌≤◌}
use native.Mathlib.Omega.{arith}
use lib.Dec.{eqb, leb}
use lib.IntN.{ℤ, pos}
use lib.ListN.{length, get_or, set, replicate, length-set, length-replicate, get_or-replicate}
use lib.Seq.{get_or-set_same, get_or-set_other}
use borrow.Author.Tests.{eqb-true, eqb-false, leb-true, le-leb}
use Rattle.laws.specs.Choice.{when◌then◌else◌, bit}
use Rattle.laws.proofs.Tests.{both, and_intro, by_cases}
use Rattle.settings.specs.Settings.{blank, record_fit, record_ranged, limits_ordered, settings_length}
use Rattle.settings.specs.declared.Settings.{Settings}
use Rattle.device.specs.Sensor.{sensor_fit}
use Rattle.sorters.proofs.Keeps.{all_off-fit, all_off_idle}
use Rattle.bench.proofs.Grosses as bench
use Rattle.detector.proofs.Signals.{none-fit}
use Rattle.lists.specs.Each.{all_of}
use Rattle.event.specs.Setup.{sorter_ranged, sorters_ranged, setup_ranged, edge_agrees, masks_agree, setup_agrees}
use Rattle.event.specs.Event.{event_ranged, event_agrees}
use Rattle.event.specs.declared.Event.{Event}
use Rattle.event.specs.declared.Event.TheVariants.{Sample, Cancel, Store}
use Rattle.line.specs.Line.{fresh_line, busy}
use Rattle.status.specs.Status.{error_known}
use Rattle.line.specs.Fit.{status_fit}
use Rattle.event.specs.Sample.{last_fit}
use Rattle.item.specs.Item.{in_hand, item_fit}
use Rattle.undo.specs.Undo.{undo_fit}
use Rattle.refusal.specs.Rows.{lengths_wrong, reads_record, reads_tally, refused_running, refused_in_emergency, refused_paused, run_unsafe, run_occupied, nothing_to_cancel}
use Rattle.line.specs.Refusal.{memory_sound, faults_of, refusal_of}
use Rattle.line.specs.Tallying.{Out}
use Rattle.line.specs.State.{active_of}
use Rattle.line.specs.Sample.{sampled}
use Rattle.line.specs.Storing.{stored}
use Rattle.line.specs.Step.{accepted, refused, step_of, out_on}
use Rattle.line.specs.declared.line.Line.{Line}
use Rattle.refusal.specs.declared.Refusal.{Refusal}
use Rattle.refusal.specs.declared.Refusal.TheVariants.{Nothing}
use Rattle.refusal.specs.Table.{memory_no, nothing_no, number_in}
use Rattle.refusal.proofs.Lengths.{right_lengths}
use Rattle.refusal.proofs.Numbers.{not_eight}
use Rattle.line.proofs.Facts.{FitLine, tells_fit}
use Rattle.line.proofs.Accepted.{step_ind, none_recorded}
use Rattle.book.specs.Book as book
use Rattle.book.specs.Book.{Verdict, Pages, Turn, aimed, tallied_by, book_of}
use Rattle.book.specs.Page.{nets_of, tally_of_page, part_of_page}
use Rattle.book.proofs.Pages.{page_fit}
use Rattle.std.specs.Prelude.{Option, Some, None, is_none, is_some, Ok}
use Rattle.claim.specs.Run.{World, fresh_world, answer, after, run_from, run}
use Rattle.book.specs.Boxes.{detected_by, outcome_of, sum_over, detected_in, judged_in, outcomes_in, in_hand_after}
use Rattle.claim.specs.Claim.{refusal_in, Stands, Claim}
use Rattle.line.proofs.Moves as moves
use Rattle.claim.proofs.Level.{Level, level}
use Rattle.line.proofs.Ticks.{hand}
use Rattle.lists.specs.Counts.{add_up}
use Rattle.part.specs.declared.part.Part.{Part}
use Rattle.part.proofs.Laws.{fit-part}
use Rattle.tallies.specs.Memory.{fit_at, part_at}
use Rattle.tallies.proofs.Parts.{lies-there, held-fit}
use Rattle.spread.specs.Figures.{report_fit}
use Rattle.sheet.specs.Sheet.{sheet_of}
use Rattle.sheet.specs.Report.{report_on}
use Rattle.sheet.proofs.Lists.{apart_holds}
use Rattle.sheet.proofs.Printed.{prints}
use Rattle.claim.proofs.RunningTicks.{accepted-in}
use Rattle.claim.proofs.Sheets.{beside, aims_of, Page, Goes, sheet_part, zero_sheets}
use Rattle.claim.proofs.Events.{Given, accepted_goes}

-- ---- the settings records stay fit

pub record Records (ss : List Settings) (g : ℕ → ℤ) : Type 0 where
  pub count : length ss ≡ settings_length
  pub fit : (k : ℕ) → k ≤ 99 → record_fit (get_or ss k blank) ≡ true
  -- the book's target of each code is its record's
  pub targets : (k : ℕ) → k ≤ 99 → g k ≡ (get_or ss k blank).target

-- one record anew
record_stored : (ss : List Settings) (g : ℕ → ℤ) (c : ℕ) (s : Settings) → Records ss g → c ≤ 99 → record_fit s ≡ true → Records (set ss c s) (aimed g c s.target)
record_stored ss g c s r low ok =
    record {
      count = length-set ss c s ∙ r.count;
      fit = λ k h. by_cases (eqb k c)
          (λ y. rw (eqb-true k c y, get_or-set_same ss c s blank (omega (arith, r.count))) ok)
          (λ n. rw (get_or-set_other ss c k s blank (eqb-false k c n)) (r.fit k h));
      targets = λ k h. by_cases (eqb k c)
          (λ y. rw (y, eqb-true k c y, get_or-set_same ss c s blank (omega (arith, r.count))) refl)
          (λ n. rw (n, get_or-set_other ss c k s blank (eqb-false k c n)) (r.targets k h));
    }

stored-fit : (l : Line) (a : Settings) (ts : List ℤ) (ss : List Settings) (g : ℕ → ℤ) (e : Event) → Records ss g → event_ranged e ≡ true → event_agrees e ≡ true
    → Records (stored ss (accepted l a ts e).storing) (aims_of g (accepted l a ts e).storing)
unfolding accepted event_ranged event_agrees
stored-fit l a ts ss g (Sample s) r h k = rw (none_recorded (sampled l a s) a.target ts) r
stored-fit l a ts ss g (Store s) r h k =
    let ranged = both (leb s.code 99) (record_ranged s.settings) h in
    record_stored ss g s.code s.settings r (leb-true s.code 99 ranged.0) (and_intro ranged.1 k)
stored-fit l a ts ss g e r h k = r

-- ---- one event on a world

pub record Holds (w : World) : Type 0 where
  pub pages : Pages
  pub targets : ℕ → ℤ
  pub book : book_of w.history ≡ beside w.state.line pages targets
  pub given : Given w.state.line w.state.tallies pages
  pub records : Records w.state.settings targets
  pub balance : detected_in w.history
      ≡ judged_in w.history + 2 * outcomes_in 7 w.history + outcomes_in 9 w.history + outcomes_in 10 w.history + in_hand_after w.history
  pub item : bit (in_hand w.state.line.item) ≡ in_hand_after w.history

refused_goes : (l : Line) (ts : List ℤ) (f : Pages) (t : ℕ → ℤ) (e : Event) (r : Refusal) → Given l ts f → Goes l f t e (refused l ts r)
unfolding book.fed tallied_by
refused_goes l ts f t e r g =
    record {
      pages = f;
      book = refl;
      line = g.fit;
      sheets = g.sheets;
      back = g.back;
      tallied = refl;
      boxes = moves.still (hand l);
    }

pub answer_goes : (w : World) (e : Event) (h : Holds w) → Goes w.state.line h.pages h.targets e (out_on w.state e)
answer_goes w e h =
    let l = w.state.line in
    let ts = w.state.tallies in
    let ss = w.state.settings in
    let a = active_of w.state in
    step_ind (Goes l h.pages h.targets e) l (length ss) a ts e
    (λ y. accepted_goes l a ts h.pages h.targets e (length ss) h.given (h.records.targets l.code (leb-true l.code 99 h.given.fit.code)) y)
    (λ r _. refused_goes l ts h.pages h.targets e r h.given)

records-after : (w : World) (e : Event) (h : Holds w) → Records (answer w e).state.settings (aims_of h.targets (out_on w.state e).storing)
records-after w e h =
    let l = w.state.line in
    let ts = w.state.tallies in
    let ss = w.state.settings in
    let a = active_of w.state in
    step_ind (λ (o : Out). Records (stored ss o.storing) (aims_of h.targets o.storing)) l (length ss) a ts e
    (λ y. stored-fit l a ts ss h.targets e h.records y.ranged y.agrees)
    (λ _ _. h.records)

-- the boxes, with one turn more
in_hand-more : (t : Turn) (h : List Turn) (a z : ℕ) → a ≡ in_hand_after h → Level a (detected_by t.reply) (outcome_of t.reply) z → z ≡ in_hand_after (t ∷ h)
unfolding in_hand_after
in_hand-more t h a z e v = rw (← e) v.last

balance-more : (t : Turn) (h : List Turn) (a z : ℕ) → a ≡ in_hand_after h → z ≡ in_hand_after (t ∷ h) → Level a (detected_by t.reply) (outcome_of t.reply) z
    → detected_in h ≡ judged_in h + 2 * outcomes_in 7 h + outcomes_in 9 h + outcomes_in 10 h + in_hand_after h
    → detected_in (t ∷ h) ≡ judged_in (t ∷ h) + 2 * outcomes_in 7 (t ∷ h) + outcomes_in 9 (t ∷ h) + outcomes_in 10 (t ∷ h) + in_hand_after (t ∷ h)
unfolding sum_over
balance-more t h a z e g v b = omega (arith, v.flow, b, e, g)

pub holds_after : (w : World) (e : Event) → Holds w → Holds (after w e)
unfolding book_of
holds_after w e h =
    let g = answer_goes w e h in
    let t : Turn = record { event = e; reply = (answer w e).reply } in
    let i = in_hand-more t w.history (hand w.state.line) (hand (answer w e).state.line) h.item (level g.boxes) in
    record {
      pages = g.pages;
      targets = aims_of h.targets (out_on w.state e).storing;
      book = rw h.book g.book;
      given = record { fit = g.line; sheets = g.sheets; back = g.back };
      records = records-after w e h;
      balance = balance-more t w.history (hand w.state.line) (hand (answer w e).state.line) h.item i (level g.boxes) h.balance;
      item = i;
    }

-- ---- every list

fresh_fit : FitLine fresh_line
unfolding fresh_line all_of sorter_ranged sorters_ranged setup_ranged edge_agrees masks_agree setup_agrees last_fit sensor_fit status_fit error_known busy item_fit undo_fit
fresh_fit =
    record { code = refl; setup = refl; last = refl; sensor = refl; status = rw all_off_idle; sorters = all_off-fit; foreign = none-fit; item = refl; undo = refl; bench = bench.fresh_fit }

blank-fit : record_fit blank ≡ true
unfolding record_ranged limits_ordered
blank-fit = refl

fresh_records : Records (replicate settings_length blank) (λ _. pos 0)
fresh_records =
    record {
      count = length-replicate settings_length blank;
      fit = λ k h. rw (get_or-replicate settings_length k blank blank (omega arith)) blank-fit;
      targets = λ k h. rw (get_or-replicate settings_length k blank blank (omega arith)) refl;
    }

fresh_holds : Holds fresh_world
unfolding book_of sum_over in_hand_after fresh_line
fresh_holds =
    record {
      pages = λ _. [];
      targets = λ _. pos 0;
      book = refl;
      given = record { fit = fresh_fit; sheets = zero_sheets; back = tt };
      records = fresh_records;
      balance = refl;
      item = refl;
    }

holds-from : (w : World) (es : List Event) → Holds w → Holds (run_from w es)
unfolding run_from
holds-from w [] h = h
holds-from w (e ∷ es) h = holds-from (after w e) es (holds_after w e h)

pub holds : (es : List Event) → Holds (run es)
unfolding run
holds es = holds-from fresh_world es fresh_holds

-- ---- what is claimed

sound_always : (w : World) (e : Event) → Holds w → memory_sound w.state.line (length w.state.settings) (active_of w.state) w.state.tallies e ≡ true
unfolding memory_sound fit_at
sound_always w e h =
    let l = w.state.line in
    let ss = w.state.settings in
    let ts = w.state.tallies in
    let low = leb-true l.code 99 h.given.fit.code in
    let right : not (lengths_wrong (length ss) ts) ≡ true = rw (right_lengths (length ss) ts h.records.count h.given.sheets.len) refl in
    and_intro (and_intro (and_intro right (tells_fit l h.given.fit))
    (rw (h.records.fit l.code low) (or-true (not (reads_record e)))))
    (rw (lies-there ts l.code low h.given.sheets.len, h.given.sheets.fit l.code low) (or-true (not (reads_tally e))))

never-eight : (l : Line) (count : ℕ) (a : Settings) (ts : List ℤ) (e : Event) → memory_sound l count a ts e ≡ true → number_in (refusal_of l count a ts e) ≢ memory_no
unfolding refusal_of
never-eight l count a ts e h = not_eight (faults_of l count a ts e) (rw h refl)

-- the reply of an event has the refusal's number
refusal_shown : (l : Line) (count : ℕ) (a : Settings) (ts : List ℤ) (e : Event) → refusal_in (step_of l count a ts e).reply ≡ number_in (refusal_of l count a ts e)
refusal_shown l count a ts e =
    step_ind (λ (o : Out). refusal_in o.reply ≡ number_in (refusal_of l count a ts e)) l count a ts e
    (λ y. rw y.passed (accepted-in l count a ts e y))
    (λ _ h. rw h refl)

cancel_answer : (l : Line) (count : ℕ) (a : Settings) (ts : List ℤ) → memory_sound l count a ts Cancel ≡ true → number_in (refusal_of l count a ts Cancel) ≡ (when is_some l.undo then 0 else nothing_no)
unfolding refusal_of event_ranged refused_running refused_in_emergency refused_paused event_agrees run_unsafe run_occupied nothing_to_cancel
cancel_answer l count a ts h = rw h (by l.undo)
  where
    by : (u : Option Part) → number_in (when is_none u then Some Nothing else None) ≡ (when is_some u then 0 else nothing_no)
    by None = refl
    by (Some q) = refl

page_report : (p : List Verdict) → Page p → report_fit (tally_of_page p) ≡ true
unfolding report_fit tally_of_page
page_report p g = and_intro (page_fit g.fine g.few) (le-leb _ _ (apart_holds (nets_of p)))

-- a code's sheet, with these pages
sheet_printed : (w : World) (h : Holds w) (code : ℕ) → code ≤ 99
    → report_on w.state.settings w.state.tallies code ≡ Ok (sheet_of (part_of_page (h.pages code)) (get_or w.state.settings code blank).target)
sheet_printed w h code low =
    let ss = w.state.settings in
    let ts = w.state.tallies in
    let s = h.given.sheets in
    let is = sheet_part ts h.pages s code low in
    prints (length ss) (get_or ss code blank) ts code h.records.count s.len low (h.records.fit code low) (s.fit code low)
    (rw is (page_report (h.pages code) (s.pages code)))
    ∙ ap (λ (q : Part). Ok (sheet_of q (get_or ss code blank).target)) is

-- the counts of a fit part add to n
counts-add_up : (w : World) (h : Holds w) (code : ℕ) → code ≤ 99 → add_up (part_at w.state.tallies code).classes ≡ (part_at w.state.tallies code).tally.n
counts-add_up w h code low =
    let p = part_at w.state.tallies code in
    (fit-part p (held-fit w.state.tallies code (h.given.sheets.fit code low))).sum

stands : (w : World) → Holds w → Stands w
stands w h =
    let l = w.state.line in
    let n = length w.state.settings in
    let a = active_of w.state in
    let ts = w.state.tallies in
    record {
      tallies = λ code low. rw h.book (h.given.sheets.parts code low);
      classes = λ code low. counts-add_up w h code low;
      balance = h.balance;
      item = h.item;
      tallied = λ e. rw h.book (answer_goes w e h).tallied;
      cancelled = refusal_shown l n a ts Cancel ∙ rw h.book (cancel_answer l n a ts (sound_always w Cancel h));
      sheets = λ code low. rw h.book (sheet_printed w h code low);
      sound = λ e z. never-eight l n a ts e (sound_always w e h) (sym (refusal_shown l n a ts e) ∙ z);
    }

pub claim : Claim
claim es = stands (run es) (holds es)
