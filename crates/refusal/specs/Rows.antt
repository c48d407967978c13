-- 01, "Refusal numbers of the manual's kind": when the conditions of the table hold, as far as that is decided without the line's record.
use Rattle.std.specs.Prelude.{ℕ, Bool, ◌&&◌, ◌||◌, not, List, eqb, ℤ, length}
use Rattle.std.specs.Int.Signed.{lt_z}
use Rattle.settings.specs.Settings.{settings_length}
use Rattle.event.specs.Kind.{is_sample, is_run, is_stop, is_cancel, is_setup, is_store}
use Rattle.event.specs.declared.Event.{Event}
use Rattle.status.specs.Status.{stopped, running, paused, emergency}
use Rattle.tallies.specs.Memory.{tallies_length}

-- no. 8 memory: "not 100 settings, tallies of a wrong length"; count is the number of settings records
unfoldable pub lengths_wrong : ℕ → List ℤ → Bool
lengths_wrong count ts = not (eqb count settings_length) || not (eqb (length ts) tallies_length)

-- "run and sample the active record"
unfoldable pub reads_record : Event → Bool
reads_record e = is_run e || is_sample e

-- "sample and cancel the active tally"
unfoldable pub reads_tally : Event → Bool
reads_tally e = is_sample e || is_cancel e

-- no. 3 status: "run while running or in emergency; stop in emergency; setup unless stopped; store while running";
-- 02, T-07: "Refusal 3 remains for running."
unfoldable pub refused_running : ℕ → Event → Bool
refused_running s e = (is_run e || is_setup e || is_store e) && eqb s running

-- no. 9 emergency: "In emergency run, stop and setup get 9."
unfoldable pub refused_in_emergency : ℕ → Event → Bool
refused_in_emergency s e = (is_run e || is_stop e || is_setup e) && eqb s emergency

-- no. 10 paused: "Setup while paused gets 10."
unfoldable pub refused_paused : ℕ → Event → Bool
refused_paused s e = is_setup e && eqb s paused

-- no. 5 safety: "run with a bit of need 0 in the last sample's safety"; input is the lowest required input that is off there, 0 if none is
unfoldable pub run_unsafe : ℕ → Event → Bool
run_unsafe input e = is_run e && not (eqb input 0)

-- no. 6 occupied: "run from stopped, last gross above nearzero"
unfoldable pub run_occupied : ℕ → ℤ → ℤ → Event → Bool
run_occupied s nearzero gross e = is_run e && eqb s stopped && lt_z nearzero gross

-- no. 7 nothing: "cancel without its premise"
unfoldable pub nothing_to_cancel : Bool → Event → Bool
nothing_to_cancel none e = is_cancel e && none
