-- 01, "Every call checks both lengths .. a report only its code's record and tally, for a code out of range neither".
use Rattle.std.specs.Prelude.{ℕ, Bool, false, ◌&&◌, ◌||◌, not, List, ℤ, length, get_or, Option, Some, None, Result, Ok, Err}
use Rattle.settings.specs.Settings.{blank, record_fit, is_code}
use Rattle.settings.specs.declared.Settings.{Settings}
use Rattle.refusal.specs.Table.{table, first_holding}
use Rattle.refusal.specs.Rows.{lengths_wrong}
use Rattle.refusal.specs.declared.Faults.{Faults}
use Rattle.refusal.specs.declared.Refusal.{Refusal}
use Rattle.tallies.specs.Memory.{fit_at, read_at}
use Rattle.spread.specs.Figures.{report_fit}
use Rattle.sheet.specs.Sheet.{sheet_of}
use Rattle.sheet.specs.declared.sheet.Sheet.{Sheet}

-- no. 8 memory: "not 100 settings, tallies of a wrong length, or an unfit line, record or tally"; count is the number of settings records, r the code's own
unfoldable pub memory_wrong : ℕ → Settings → List ℤ → ℕ → Bool
memory_wrong count r ts code =
    lengths_wrong count ts
    || (is_code code && (not (record_fit r) || not (fit_at ts code) || not (report_fit (read_at ts code).tally)))

-- which conditions of the table hold: no. 1 is other text's, 3 to 7 are an event's
abbrev pub report_faults : ℕ → Settings → List ℤ → ℕ → Faults
report_faults count r ts code =
    record {
      memory = memory_wrong count r ts code;
      form = false;
      value = not (is_code code);
      running = false;
      emergency = false;
      paused = false;
      contradiction = false;
      safety = false;
      occupied = false;
      nothing = false;
    }

-- the refusal of a report, none if the sheet is printed
unfoldable pub report_refusal : ℕ → Settings → List ℤ → ℕ → Option Refusal
report_refusal count r ts code = first_holding (table (report_faults count r ts code))

abbrev pub unless_refused : Option Refusal → Sheet → Result Sheet Refusal
unless_refused None s = Ok s
unless_refused (Some refusal) s = Err refusal

-- the answer to a report, where count records are lent and r is the code's own
unfoldable pub report_of : ℕ → Settings → List ℤ → ℕ → Result Sheet Refusal
report_of count r ts code = unless_refused (report_refusal count r ts code) (sheet_of (read_at ts code) r.target)

-- a code's report over both lent memories
abbrev pub report_on : List Settings → List ℤ → ℕ → Result Sheet Refusal
report_on ss ts code = report_of (length ss) (get_or ss code blank) ts code
