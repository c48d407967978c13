-- The tallies are those of the pages: kept by each event. Assumes nothing.
use mathlib.Core.Path.{◌≡◌, refl, sym, ap, ◌∙◌}
use mathlib.Core.Bool.{true, false}
use mathlib.Core.List.{List, [], ◌∷◌}
use Prim.Native.Nat.{ℕ, ◌≤◌}
use native.Mathlib.Omega.{arith}
use lib.Dec.{eqb, ltb}
use lib.IntN.{ℤ}
use lib.ListN.{length}
use Rattle.std.specs.Prelude.{Option, Some, None, is_some, ⊤}
use borrow.Author.Tests.{eqb-true, eqb-false, eq-eqb, leb-true, ltb-true}
use Rattle.laws.proofs.Tests.{if_ind, by_cases}
use Rattle.event.specs.declared.Event.{Event}
use Rattle.weight.specs.Weight.{is_weight}
use Rattle.tally.specs.Tally.{has_room}
use Rattle.verdict.specs.Verdict.{is_verdict}
use Rattle.part.specs.Part.{part_fit, added_part}
use Rattle.part.specs.declared.part.Part.{Part}
use Rattle.tallies.specs.Memory.{part_numbers, part, part_of, part_at, part_at_fit, with_part, zeros, tallies_length}
use Rattle.tallies.proofs.Parts.{length_kept, same_numbers, other-numbers, part-zeros, part_of-numbers, fit_same, fit-zeros, length_zeros, lies-there}
use Rattle.line.specs.Line.{busy, with_undo}
use Rattle.line.specs.Fit.{status_fit}
use Rattle.undo.specs.Undo.{undo_fit}
use Rattle.undo.proofs.Laws.{taken_by-room}
use Rattle.line.specs.Effect.{Effect, replied}
use Rattle.line.specs.Tallying.{Out, untallied, noted, recorded}
use Rattle.event.specs.declared.Stored.{Stored}
use Rattle.line.specs.declared.line.Line.{Line}
use Rattle.line.proofs.Facts.{FitLine}
use Rattle.book.specs.Book as book
use Rattle.book.specs.Book.{Book, Verdict, Pages, turned, aimed, last_off, has_place, entered, tallied_by}
use Rattle.book.specs.Page.{part_of_page}
use Rattle.book.specs.Boxes.{detected_by, outcome_of}
use Rattle.claim.specs.Claim.{tallied_in}
use Rattle.line.proofs.Moves.{Moves}
use Rattle.line.proofs.Ticks.{Went, hand}
use Rattle.book.proofs.Pages.{Fine, none, more, part-more, page_part_fit, page_room, part_none}

-- the book beside a line, with these pages and targets
abbrev pub beside : Line → Pages → (ℕ → ℤ) → Book
beside l f g = record { code = l.code; pages = f; chance = is_some l.undo; targets = g }

-- the targets with what an event stores
abbrev pub aims_of : (ℕ → ℤ) → Option Stored → ℕ → ℤ
aims_of g None = g
aims_of g (Some x) = aimed g x.code x.settings.target

-- what a cancel would put back is the part without the last verdict
abbrev pub Back : Option Part → List Verdict → Type 0
Back None p = ⊤
Back (Some q) p = q ≡ part_of_page (last_off p)

pub record Page (p : List Verdict) : Type 0 where
  pub fine : Fine p
  pub few : length p ≤ 999999

-- the tallies are those of the pages
pub record Sheets (ts : List ℤ) (f : Pages) : Type 0 where
  pub len : length ts ≡ tallies_length
  pub parts : (k : ℕ) → k ≤ 99 → part ts k ≡ part_numbers (part_of_page (f k))
  pub fit : (k : ℕ) → k ≤ 99 → part_at_fit ts k ≡ true
  pub pages : (k : ℕ) → Page (f k)

pub sheet_part : (ts : List ℤ) (f : Pages) → Sheets ts f → (k : ℕ) → k ≤ 99 → part_at ts k ≡ part_of_page (f k)
sheet_part ts f s k h = ap part_of (s.parts k h) ∙ part_of-numbers (part_of_page (f k))

pub page_fits : (p : List Verdict) → Page p → part_fit (part_of_page p) ≡ true
page_fits p g = page_part_fit g.fine g.few

-- one page anew, and the part of its code with it
pub put_sheet : (ts : List ℤ) (f : Pages) (c : ℕ) (p : List Verdict) (q : Part) → Sheets ts f → c ≤ 99 → Page p → q ≡ part_of_page p → Sheets (with_part ts c q) (turned f c p)
put_sheet ts f c p q s low g e =
    let ok : part_fit q ≡ true = rw e (page_fits p g) in
    record {
      len = length_kept ts c q ok s.len low;
      parts = λ k h. if_ind (λ (r : List Verdict). part (with_part ts c q) k ≡ part_numbers (part_of_page r)) (eqb k c) p (f k)
          (λ y. rw (eqb-true k c y) (same_numbers ts c q ok s.len low ∙ ap part_numbers e))
          (λ n. other-numbers ts c q ok s.len low k (eqb-false k c n) ∙ s.parts k h);
      fit = λ k h. by_cases (eqb k c)
          (λ y. rw (eqb-true k c y) (fit_same ts c q ok s.len low))
          (λ n. rw (other-numbers ts c q ok s.len low k (eqb-false k c n)) (s.fit k h));
      pages = λ k. if_ind Page (eqb k c) p (f k) (λ _. g) (λ _. s.pages k);
    }

pub zero_sheets : Sheets (zeros tallies_length) (λ _. [])
zero_sheets =
    record {
      len = length_zeros;
      parts = λ k h. part-zeros k h ∙ ap part_numbers (sym part_none);
      fit = λ k h. fit-zeros k h;
      pages = λ k. record { fine = none; few = omega arith };
    }

-- ---- one event

-- what an event that hands back `o` does beside the pages `f` and the targets `g`
pub record Goes (l : Line) (f : Pages) (g : ℕ → ℤ) (e : Event) (o : Out) : Type 0 where
  pub pages : Pages
  pub book : book.fed (beside l f g) e o.reply ≡ beside o.line pages (aims_of g o.storing)
  pub line : FitLine o.line
  pub sheets : Sheets o.tallies pages
  pub back : Back o.line.undo (pages o.line.code)
  pub tallied : tallied_in o.reply ≡ tallied_by (beside l f g) o.reply
  pub boxes : Moves (hand l) (detected_by o.reply) (outcome_of o.reply) (hand o.line)

-- an effect without a verdict, of an event that is no command to the book
pub quiet : (l : Line) (ts : List ℤ) (f : Pages) (g : ℕ → ℤ) (e : Event) (x : Effect) → Went l x → Sheets ts f → Back l.undo (f l.code) → is_verdict x.outcome ≡ false → ((b : Book) → book.commanded b e ≡ b) → Goes l f g e (untallied x ts)
unfolding book.fed replied tallied_by
quiet l ts f g e x w s b v c =
    record {
      pages = f;
      book = rw (v, c (beside l f g), w.code, w.undo);
      line = w.fit;
      sheets = s;
      back = rw (w.code, w.undo) b;
      tallied = rw v;
      boxes = w.boxes;
    }

-- ---- a verdict

-- the page that a verdict comes to
pub turned_same : (f : Pages) (c : ℕ) (p : List Verdict) → turned f c p c ≡ p
turned_same f c p = rw (eq-eqb c c refl)

pub with_undo_lem : (k : Line) (u : Option Part) → FitLine k → undo_fit u ≡ true → FitLine (with_undo k u)
unfolding status_fit busy
with_undo_lem k u f h = assumption (f, h)

pub none-fit : undo_fit None ≡ true
unfolding undo_fit
none-fit = refl

-- what a verdict is on a page
abbrev verdict : Effect → ℤ → Verdict
verdict x target = record { outcome = x.outcome; net = x.net; target = target }

verdict_goes : (l : Line) (ts : List ℤ) (f : Pages) (g : ℕ → ℤ) (e : Event) (x : Effect) (target : ℤ) → Went l x → Sheets ts f → is_verdict x.outcome ≡ true
    → is_weight target ≡ true → g x.line.code ≡ target → Goes l f g e (noted x target ts)
unfolding noted replied book.fed entered has_place tallied_by undo_fit
verdict_goes l ts f g e x target w s v aim aimed-at =
    let c = x.line.code in
    let low : c ≤ 99 = leb-true c 99 w.fit.code in
    let p = f c in
    let q = part_at ts c in
    let put = verdict x target ∷ p in
    let is : q ≡ part_of_page p = sheet_part ts f s c low in
    let room : has_room q.tally ≡ ltb (length p) 999999 = ap (λ (r : Part). has_room r.tally) is ∙ page_room (s.pages c).fine in
    let takes = taken_by-room ts c x.outcome x.net target (lies-there ts c low s.len) (s.fit c low) v w.net aim in
    by_cases (has_room q.tally)
    (λ h. let place : ltb (length p) 999999 ≡ true = sym room ∙ h in
    let page : Page put =
    record { fine = more (record { outcome = v; net = w.net }) (s.pages c).fine; few = omega (arith, ltb-true (length p) 999999 place) } in
    rw (takes ∙ h)
    (record {
      pages = turned f c put;
      book = rw (← w.code, v, place, aimed-at);
      line = with_undo_lem x.line (Some q) w.fit (rw is (page_fits p (s.pages c)));
      sheets = put_sheet ts f c put (added_part q x.outcome x.net target) s low page
          (ap (λ (y : Part). added_part y x.outcome x.net target) is ∙ sym (part-more (verdict x target) p));
      back = rw (turned_same f c put) is;
      tallied = rw (← w.code, v, place);
      boxes = w.boxes;
    }))
    (λ h. let full : ltb (length p) 999999 ≡ false = sym room ∙ h in
    rw (takes ∙ h)
    (record {
      pages = f;
      book = rw (← w.code, v, full);
      line = with_undo_lem x.line None w.fit refl;
      sheets = s;
      back = tt;
      tallied = rw (← w.code, v, full);
      boxes = w.boxes;
    }))

-- a sample: with a verdict or without one; target is the active code's, in the book as in its record
pub sample-sheets : (l : Line) (ts : List ℤ) (f : Pages) (g : ℕ → ℤ) (e : Event) (x : Effect) (target : ℤ) → Went l x → Sheets ts f → Back l.undo (f l.code)
    → ((b : Book) → book.commanded b e ≡ b) → is_weight target ≡ true → g l.code ≡ target → Goes l f g e (recorded x target ts)
unfolding recorded
sample-sheets l ts f g e x target w s b c aim aimed-at =
    if_ind (Goes l f g e) (is_verdict x.outcome) _ _
    (λ v. verdict_goes l ts f g e x target w s v aim (ap g w.code ∙ aimed-at))
    (λ v. quiet l ts f g e x w s b v c)
