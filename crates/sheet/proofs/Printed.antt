-- What it tells that no rule of the table held of a report, and when none does. Assumes nothing.
use mathlib.Core.Path.{◌≡◌}
use mathlib.Core.Bool.{Bool, true, false, not, ◌&&◌, ◌||◌}
use mathlib.Core.List.{List}
use Prim.Native.Nat.{ℕ, ◌≤◌}
use lib.IntN.{ℤ}
use lib.ListN.{length}
use Rattle.std.specs.Prelude.{None, Ok}
use borrow.Author.Tests.{le-leb, eq-eqb, not-false}
use Rattle.laws.proofs.Tests.{neither}
use Rattle.settings.specs.Settings.{record_fit, settings_length, is_code}
use Rattle.settings.specs.declared.Settings.{Settings}
use Rattle.refusal.specs.Rows.{lengths_wrong}
use Rattle.refusal.proofs.Lengths.{right_lengths}
use Rattle.refusal.proofs.Numbers.{none-holds}
use Rattle.spread.specs.Figures.{report_fit}
use Rattle.tallies.specs.Memory.{tallies_length, part_at, part_at_fit, fit_at, read_at}
use Rattle.sheet.specs.Sheet.{sheet_of}
use Rattle.sheet.specs.Report.{memory_wrong, report_faults, report_refusal, report_of}

pub record Printed (r : Settings) (ts : List ℤ) (code : ℕ) : Type 0 where
  pub own : record_fit r ≡ true
  pub part : fit_at ts code ≡ true
  pub tally : report_fit (read_at ts code).tally ≡ true

failed : (a b : Bool) → a ≡ true → a && b ≡ false → b ≡ false
failed a b h k = rw h at k

pub printed_tells : (count : ℕ) (r : Settings) (ts : List ℤ) (code : ℕ) → report_refusal count r ts code ≡ None → Printed r ts code
unfolding report_refusal memory_wrong
printed_tells count r ts code h =
    let n = none-holds (report_faults count r ts code) h in
    let unfit = not (record_fit r) || not (fit_at ts code) || not (report_fit (read_at ts code).tally) in
    let m = neither (lengths_wrong count ts) (is_code code && unfit) n.memory in
    let u = neither _ (not (report_fit (read_at ts code).tally)) (failed (is_code code) unfit (not-false _ n.value) m.1) in
    let w = neither (not (record_fit r)) (not (fit_at ts code)) u.0 in
    record { own = not-false _ w.0; part = not-false _ w.1; tally = not-false _ u.1 }

-- a code's sheet is printed where the lengths are right, and its record and tally fit
pub prints : (count : ℕ) (r : Settings) (ts : List ℤ) (code : ℕ) → count ≡ settings_length → length ts ≡ tallies_length → code ≤ 99
    → record_fit r ≡ true → part_at_fit ts code ≡ true → report_fit (part_at ts code).tally ≡ true
    → report_of count r ts code ≡ Ok (sheet_of (part_at ts code) r.target)
unfolding report_of report_refusal memory_wrong fit_at
prints count r ts code n len low own part fit =
    rw (right_lengths count ts n len, own, le-leb code 99 low, eq-eqb (length ts) tallies_length len, part, fit)
