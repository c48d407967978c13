-- An event is accepted, which tells that no rule of the table held, or refused. Assumes nothing.
use mathlib.Core.Path.{◌≡◌, refl, sym}
use mathlib.Core.Bool.{true, false, not, ◌||◌}
use mathlib.Core.List.{List}
use Prim.Native.Nat.{ℕ}
use lib.Dec.{eqb}
use lib.IntN.{ℤ}
use lib.ListN.{length}
use Rattle.std.specs.Prelude.{Option, Some, None, is_none}
use borrow.Author.Tests.{not-true, not-false}
use Rattle.laws.proofs.Tests.{both, if_ind}
use Rattle.settings.specs.Settings.{record_fit, settings_length}
use Rattle.settings.specs.declared.Settings.{Settings}
use Rattle.event.specs.Sample.{sample_ranged}
use Rattle.event.specs.Event.{event_ranged, event_agrees}
use Rattle.event.specs.declared.Sample as sample
use Rattle.event.specs.declared.Event.TheVariants.{Sample, Store}
use Rattle.event.specs.declared.Event.{Event}
use Rattle.event.specs.Reply.{Reply}
use Rattle.event.specs.declared.Stored.{Stored}
use Rattle.tallies.specs.Memory.{fit_at, tallies_length}
use Rattle.line.specs.Fit.{line_fit}
use Rattle.refusal.proofs.Lengths.{lengths_right}
use Rattle.refusal.proofs.Numbers.{none-holds}
use Rattle.refusal.specs.Table.{number_of}
use Rattle.refusal.specs.declared.Refusal.{Refusal}
use Rattle.refusal.specs.declared.Refusal.TheVariants as refusal
use Rattle.refusal.specs.Rows.{lengths_wrong, reads_record, reads_tally, refused_running, refused_in_emergency, refused_paused, run_unsafe, run_occupied, nothing_to_cancel}
use Rattle.line.specs.Refusal.{memory_sound, input_off, faults_of, refusal_of}
use Rattle.line.specs.Tallying.{Out, untallied, noted, recorded}
use Rattle.line.specs.Effect.{Effect, replied}
use Rattle.line.specs.Sample.{sampled}
use Rattle.verdict.specs.Verdict.{is_verdict}
use Rattle.line.specs.State.{State, active_of}
use Rattle.line.specs.Step.{accepted, refused, unless_refused, step_of, out_on, step_on}
use Rattle.line.specs.declared.line.Line.{Line}

pub record Accepted (l : Line) (count : ℕ) (a : Settings) (ts : List ℤ) (e : Event) : Type 0 where
  pub passed : refusal_of l count a ts e ≡ None
  pub sound : memory_sound l count a ts e ≡ true
  pub ranged : event_ranged e ≡ true
  pub running : refused_running l.status e ≡ false
  pub emergency : refused_in_emergency l.status e ≡ false
  pub paused : refused_paused l.status e ≡ false
  pub agrees : event_agrees e ≡ true
  pub safe : run_unsafe (input_off l) e ≡ false
  pub free : run_occupied l.status a.nearzero l.last.gross e ≡ false
  pub chance : nothing_to_cancel (is_none l.undo) e ≡ false

pub accepted_tells : (l : Line) (count : ℕ) (a : Settings) (ts : List ℤ) (e : Event) → refusal_of l count a ts e ≡ None → Accepted l count a ts e
unfolding refusal_of
accepted_tells l count a ts e h =
    let n = none-holds (faults_of l count a ts e) h in
    record {
      passed = h;
      sound = not-false _ n.memory;
      ranged = not-false _ n.value;
      running = n.running;
      emergency = n.emergency;
      paused = n.paused;
      agrees = not-false _ n.contradiction;
      safe = n.safety;
      free = n.occupied;
      chance = n.nothing;
    }

-- to show a thing of what an event gives, show it of both
pub step_ind : (P : Out → Type 0) (l : Line) (count : ℕ) (a : Settings) (ts : List ℤ) (e : Event)
    → (Accepted l count a ts e → P (accepted l a ts e))
    → ((r : Refusal) → refusal_of l count a ts e ≡ Some r → P (refused l ts r))
    → P (step_of l count a ts e)
unfolding step_of
step_ind P l count a ts e goes stays = by_refusal (refusal_of l count a ts e) refl
  where
    by_refusal : (r : Option Refusal) → refusal_of l count a ts e ≡ r → P (unless_refused r l a ts e)
    by_refusal None h = goes (accepted_tells l count a ts e h)
    by_refusal (Some r) h = stays r h

-- a refusal has a number
pub numbered : (r : Refusal) → eqb (number_of r) 0 ≡ false
numbered refusal.Memory = refl
numbered refusal.Form = refl
numbered refusal.Value = refl
numbered refusal.Status = refl
numbered refusal.Emergency = refl
numbered refusal.Paused = refl
numbered refusal.Contradiction = refl
numbered refusal.Safety = refl
numbered refusal.Occupied = refl
numbered refusal.Nothing = refl

-- the memory is sound
pub record Sound (l : Line) (count : ℕ) (a : Settings) (ts : List ℤ) (e : Event) : Type 0 where
  pub records : count ≡ settings_length
  pub tallies : length ts ≡ tallies_length
  pub line : line_fit l ≡ true
  pub active : not (reads_record e) || record_fit a ≡ true
  pub tally : not (reads_tally e) || fit_at ts l.code ≡ true

pub sound_tells : (l : Line) (count : ℕ) (a : Settings) (ts : List ℤ) (e : Event) → memory_sound l count a ts e ≡ true → Sound l count a ts e
unfolding memory_sound
sound_tells l count a ts e h =
    let t = both _ (not (reads_tally e) || fit_at ts l.code) h in
    let r = both _ (not (reads_record e) || record_fit a) t.0 in
    let f = both (not (lengths_wrong count ts)) (line_fit l) r.0 in
    let n = lengths_right count ts (not-true _ f.0) in
    record {
      records = n.0;
      tallies = n.1;
      line = f.1;
      active = r.1;
      tally = t.1;
    }

-- what an accepted sample gives to its method
pub sample_given : (l : Line) (count : ℕ) (a : Settings) (ts : List ℤ) (e : Event) (s : sample.Sample) → refusal_of l count a ts e ≡ None → e ≡ Sample s
    → (line_fit l ≡ true) × (record_fit a ≡ true) × (sample_ranged s ≡ true)
unfolding event_ranged reads_record
sample_given l count a ts e s h is =
    let y = accepted_tells l count a ts (Sample s) (rw is at h) in
    let m = sound_tells l count a ts (Sample s) y.sound in
    (m.line, m.active, y.ranged)

-- ---- what an accepted event stores

pub none_recorded : (x : Effect) (target : ℤ) (ts : List ℤ) → (recorded x target ts).storing ≡ None
unfolding recorded noted
none_recorded x target ts = if_ind (λ (o : Out). o.storing ≡ None) (is_verdict x.outcome) (noted x target ts) (untallied x ts) (λ _. refl) (λ _. refl)
