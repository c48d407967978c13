-- 01, "Refusal numbers of the manual's kind": when each condition of the table holds.
use Rattle.std.specs.Prelude.{ℕ, Bool, false, ◌&&◌, ◌||◌, not, List, ℤ, Option, is_none}
use Rattle.mask.specs.Bits.{lowest_off}
use Rattle.refusal.specs.Table.{table, first_holding}
use Rattle.refusal.specs.Rows.{lengths_wrong, reads_record, reads_tally, refused_running, refused_in_emergency, refused_paused, run_unsafe, run_occupied, nothing_to_cancel}
use Rattle.refusal.specs.declared.Faults.{Faults}
use Rattle.refusal.specs.declared.Refusal.{Refusal}
use Rattle.refusal.specs.declared.Refusal.TheVariants.{Safety}
use Rattle.settings.specs.Settings.{record_fit}
use Rattle.settings.specs.declared.Settings.{Settings}
use Rattle.event.specs.Event.{event_ranged, event_agrees}
use Rattle.event.specs.declared.Event.{Event}
use Rattle.tallies.specs.Memory.{fit_at}
use Rattle.line.specs.Fit.{line_fit}
use Rattle.line.specs.declared.line.Line.{Line}

-- no. 8 memory is not the case: "Every call checks both lengths, every event the line"; count is the number of settings records, a the active one
unfoldable pub memory_sound : Line → ℕ → Settings → List ℤ → Event → Bool
memory_sound l count a ts e =
    not (lengths_wrong count ts) && line_fit l
    && (not (reads_record e) || record_fit a) && (not (reads_tally e) || fit_at ts l.code)

-- the lowest required input that is off in the last sample
abbrev pub input_off : Line → ℕ
input_off l = lowest_off l.setup.need l.last.safety

-- which conditions of the table hold
abbrev pub faults_of : Line → ℕ → Settings → List ℤ → Event → Faults
faults_of l count a ts e =
    record {
      memory = not (memory_sound l count a ts e);
      form = false;
      value = not (event_ranged e);
      running = refused_running l.status e;
      emergency = refused_in_emergency l.status e;
      paused = refused_paused l.status e;
      contradiction = not (event_agrees e);
      safety = run_unsafe (input_off l) e;
      occupied = run_occupied l.status a.nearzero l.last.gross e;
      nothing = nothing_to_cancel (is_none l.undo) e;
    }

-- the refusal of an event, none if it is accepted
unfoldable pub refusal_of : Line → ℕ → Settings → List ℤ → Event → Option Refusal
refusal_of l count a ts e = first_holding (table (faults_of l count a ts e))

-- "input is the number of the lowest required input that is off (0 but for 5)"
unfoldable pub input_of : Line → Refusal → ℕ
input_of l Safety = input_off l
input_of l r = 0
