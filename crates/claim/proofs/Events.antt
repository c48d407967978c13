-- Each of the twelve kinds of event, accepted, goes with the book; a refused one changes nothing. Assumes nothing.
use mathlib.Core.Path.{◌≡◌, refl, sym, subst}
use mathlib.Core.Bool.{true, false, and-false, and-true, or-true}
use mathlib.Core.List.{List, [], ◌∷◌}
use Prim.Native.Nat.{ℕ}
use native.Mathlib.Omega.{arith}
use lib.Dec.{T, eqb, leb}
use lib.IntN.{ℤ}
use Rattle.std.specs.Prelude.{Option, Some, None, is_none, is_some}
use borrow.Author.Tests.{eqb-false, ne_eqb, leb-true}
use Rattle.laws.proofs.Tests.{and_intro, by_cases, never}
use Rattle.settings.specs.declared.Settings.{Settings}
use Rattle.event.specs.Setup.{setup_fit}
use Rattle.event.specs.Event.{event_ranged, event_agrees}
use Rattle.event.specs.declared.Event.{Event}
use Rattle.event.specs.declared.Event.TheVariants.{Sample, Run, Stop, Emergency, Recall, Cancel, ClearCode, ClearAll, ErrorReset, NoOperation, Setup, Store}
use Rattle.event.specs.declared.Setup as setup
use Rattle.event.specs.declared.Stored.{Stored}
use Rattle.event.proofs.Facts.{in_range}
use Rattle.sheet.proofs.Facts.{target_weight}
use Rattle.part.specs.Part.{empty_part, part_fit}
use Rattle.part.proofs.Laws.{empty-fit}
use Rattle.part.specs.declared.part.Part.{Part}
use Rattle.tallies.proofs.Parts.{lies-there, written_is}
use Rattle.tallies.specs.Memory.{with_part, zeros, tallies_length}
use Rattle.status.specs.Status.{paused, emergency, error_known}
use Rattle.line.specs.Line.{busy, with_status, with_setup, with_undo}
use Rattle.event.specs.Reply.{no_error}
use Rattle.line.specs.Fit.{status_fit}
use Rattle.item.specs.Item.{in_hand, item_fit}
use Rattle.line.specs.Effect.{plain, replied}
use Rattle.line.specs.Sample.{sampled}
use Rattle.line.specs.Command.{ran, stopping, alarmed}
use Rattle.refusal.specs.Rows.{reads_record, nothing_to_cancel}
use Rattle.undo.specs.Undo.{undo_fit, put_back}
use Rattle.line.specs.Tallying.{untallied, cancelled, recalled, code_cleared, cleared_one, cleared_all}
use Rattle.line.specs.Step.{storing, accepted}
use Rattle.item.specs.declared.Item.{Item}
use Rattle.item.specs.declared.Item.TheVariants as item
use Rattle.line.specs.declared.line.Line.{Line}
use Rattle.line.proofs.Facts.{FitLine, status_tells}
use Rattle.line.proofs.Accepted.{Accepted, sound_tells}
use Rattle.book.specs.Book as book
use Rattle.book.specs.Book.{Verdict, Pages, turned, last_off, tallied_by}
use Rattle.book.specs.Page.{part_of_page}
use Rattle.line.proofs.Moves as moves
use Rattle.line.proofs.Ticks.{hand, sample_goes, run_goes, stop_goes, emergency_goes}
use Rattle.book.proofs.Pages.{Fine, none, more, part_none}
use Rattle.claim.proofs.RunningTicks.{halting_quiet, stop_quiet, set_up_empty}
use Rattle.claim.proofs.Sheets.{beside, Back, Page, Sheets, Goes, put_sheet, zero_sheets, quiet, sample-sheets, with_undo_lem, none-fit}

-- ---- fitness

with_code : (l : Line) (c : ℕ) → FitLine l → leb c 99 ≡ true → FitLine (recalled l c)
unfolding status_fit busy
with_code l c f h = assumption (f, h, none-fit)

no_error_lem : (l : Line) → FitLine l → FitLine (with_status l l.status no_error)
unfolding status_fit error_known busy
no_error_lem l f =
    let t = status_tells l f.status in
    assumption (f, and_intro (and_intro (and_intro t.known refl) (or-true (eqb l.status paused))) t.idle)

-- any setup fits a line with nothing in hand
item-none : (i : Item) (s : setup.Setup) → in_hand i ≡ false → item_fit i s ≡ true
unfolding item_fit
item-none item.None s h = refl
item-none (item.Waiting k) s h = absurd (subst T h tt)
item-none (item.Averaging k x) s h = absurd (subst T h tt)

with_setup_lem : (l : Line) (s : setup.Setup) → FitLine l → setup_fit s ≡ true → in_hand l.item ≡ false → FitLine (with_setup l s)
unfolding status_fit busy
with_setup_lem l s f h n = assumption (f, h, item-none l.item s n)

-- ---- commands to the book

pub record Given (l : Line) (ts : List ℤ) (f : Pages) : Type 0 where
  pub fit : FitLine l
  pub sheets : Sheets ts f
  pub back : Back l.undo (f l.code)

-- an accepted event that is no verdict: the book follows the command
command_goes : (l k : Line) (ts : List ℤ) (f h : Pages) (g : ℕ → ℤ) (e : Event) → book.commanded (beside l f g) e ≡ beside k h g → FitLine k → Sheets ts h → Back k.undo (h k.code) → k.item ≡ l.item → Goes l f g e (untallied (plain k) ts)
unfolding book.fed replied tallied_by
command_goes l k ts f h g e c fit s b i =
    record {
      pages = h;
      book = c;
      line = fit;
      sheets = s;
      back = b;
      tallied = refl;
      boxes = rw i (moves.still (hand l));
    }

last_off_lem : (p : List Verdict) → Page p → Page (last_off p)
last_off_lem [] g = g
last_off_lem (v ∷ p) g = tail g.fine
  where
    tail : Fine (v ∷ p) → Page p
    tail (more h f) = record { fine = f; few = omega (arith, g.few) }

cancel_goes : (l : Line) (ts : List ℤ) (f : Pages) (a : ℕ → ℤ) → is_none l.undo ≡ false → Given l ts f → Goes l f a Cancel (cancelled l ts)
unfolding book.commanded undo_fit
cancel_goes l ts f a h g = by_undo l.undo refl
  where
    by_undo : (u : Option Part) → l.undo ≡ u → Goes l f a Cancel (cancelled l ts)
    by_undo None e = never (sym (rw e at h))
    by_undo (Some q) e =
        let c = l.code in
        let low = leb-true c 99 g.fit.code in
        let fit : part_fit q ≡ true = rw e at g.fit.undo in
        let kept : q ≡ part_of_page (last_off (f c)) = rw e at g.back in
        let back : put_back ts c l.undo ≡ with_part ts c q = rw e (written_is ts c q (lies-there ts c low g.sheets.len) fit) in
        rw back
        (command_goes l (with_undo l None) (with_part ts c q) f (turned f c (last_off (f c))) a Cancel refl
        (with_undo_lem l None g.fit none-fit)
        (put_sheet ts f c (last_off (f c)) q g.sheets low (last_off_lem (f c) (g.sheets.pages c)) kept)
        tt refl)

recall_goes : (l : Line) (ts : List ℤ) (f : Pages) (a : ℕ → ℤ) (c : ℕ) → leb c 99 ≡ true → Given l ts f → Goes l f a (Recall c) (untallied (plain (recalled l c)) ts)
unfolding book.commanded
recall_goes l ts f a c h g = command_goes l (recalled l c) ts f f a (Recall c) refl (with_code l c g.fit h) g.sheets tt refl

clear-all_goes : (l : Line) (ts : List ℤ) (f : Pages) (a : ℕ → ℤ) → Given l ts f → Goes l f a ClearAll (cleared_all l ts)
unfolding book.commanded
clear-all_goes l ts f a g =
    rw g.sheets.len
    (command_goes l (with_undo l None) (zeros tallies_length) f (λ _. []) a ClearAll refl (with_undo_lem l None g.fit none-fit) zero_sheets tt refl)

empty_sheet : (ts : List ℤ) (f : Pages) (c : ℕ) → leb c 99 ≡ true → Sheets ts f → Sheets (with_part ts c empty_part) (turned f c [])
empty_sheet ts f c h s =
    put_sheet ts f c [] empty_part s (leb-true c 99 h) (record { fine = none; few = omega arith }) (sym part_none)

clear-code_goes : (l : Line) (ts : List ℤ) (f : Pages) (a : ℕ → ℤ) (c : ℕ) → leb c 99 ≡ true → Given l ts f → Goes l f a (ClearCode c) (cleared_one l ts c)
unfolding code_cleared book.commanded
clear-code_goes l ts f a c h g =
    let sheets = empty_sheet ts f c h g.sheets in
    rw (written_is ts c empty_part (lies-there ts c (leb-true c 99 h) g.sheets.len) empty-fit)
    (by_cases (eqb c l.code)
    (λ y. rw y (command_goes l (with_undo l None) (with_part ts c empty_part) f (turned f c []) a (ClearCode c)
    (rw (y, and-false (is_some l.undo))) (with_undo_lem l None g.fit none-fit) sheets tt refl))
    (λ n. rw n (command_goes l l (with_part ts c empty_part) f (turned f c []) a (ClearCode c)
    (rw (n, and-true (is_some l.undo))) g.fit sheets
    (rw (ne_eqb l.code c (λ e. eqb-false c l.code n (sym e))) g.back) refl)))

-- a store changes neither the line nor a sheet, and the book has its target
store_goes : (l : Line) (ts : List ℤ) (f : Pages) (a : ℕ → ℤ) (s : Stored) → Given l ts f → Goes l f a (Store s) (storing l ts s)
unfolding book.fed book.commanded replied tallied_by
store_goes l ts f a s g =
    record {
      pages = f;
      book = refl;
      line = g.fit;
      sheets = g.sheets;
      back = g.back;
      tallied = refl;
      boxes = moves.still (hand l);
    }

-- ---- every kind

pub accepted_goes : (l : Line) (a : Settings) (ts : List ℤ) (f : Pages) (t : ℕ → ℤ) (e : Event) (count : ℕ) → Given l ts f → t l.code ≡ a.target
    → Accepted l count a ts e → Goes l f t e (accepted l a ts e)
unfolding accepted book.commanded event_ranged event_agrees reads_record nothing_to_cancel ran alarmed
accepted_goes l a ts f t (Sample s) count g at h =
    let m = sound_tells l count a ts (Sample s) h.sound in
    sample-sheets l ts f t (Sample s) (sampled l a s) a.target (sample_goes l a s g.fit m.active (in_range s h.ranged)) g.sheets g.back (λ b. refl)
    (target_weight a m.active) at
accepted_goes l a ts f t Run count g at h = quiet l ts f t Run (ran l) (run_goes l g.fit) g.sheets g.back refl (λ b. refl)
accepted_goes l a ts f t Stop count g at h = quiet l ts f t Stop (stopping l) (stop_goes l g.fit) g.sheets g.back (stop_quiet l).verdict (λ b. refl)
accepted_goes l a ts f t Emergency count g at h = quiet l ts f t Emergency (alarmed l) (emergency_goes l g.fit) g.sheets g.back (halting_quiet l emergency refl).verdict (λ b. refl)
accepted_goes l a ts f t (Recall c) count g at h = recall_goes l ts f t c h.ranged g
accepted_goes l a ts f t Cancel count g at h = cancel_goes l ts f t h.chance g
accepted_goes l a ts f t (ClearCode c) count g at h = clear-code_goes l ts f t c h.ranged g
accepted_goes l a ts f t ClearAll count g at h = clear-all_goes l ts f t g
accepted_goes l a ts f t ErrorReset count g at h =
    command_goes l (with_status l l.status no_error) ts f f t ErrorReset refl (no_error_lem l g.fit) g.sheets g.back refl
accepted_goes l a ts f t NoOperation count g at h = command_goes l l ts f f t NoOperation refl g.fit g.sheets g.back refl
accepted_goes l a ts f t (Setup s) count g at h =
    command_goes l (with_setup l s) ts f f t (Setup s) refl
    (with_setup_lem l s g.fit (and_intro h.ranged h.agrees) (set_up_empty l count a ts s h)) g.sheets g.back refl
accepted_goes l a ts f t (Store s) count g at h = store_goes l ts f t s g
