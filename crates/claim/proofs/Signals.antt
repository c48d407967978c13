-- What becomes of the foreign signals over one event and over every list. Assumes nothing.
use mathlib.Core.Path.{◌≡◌, refl, sym, ◌∙◌}
use mathlib.Core.Bool.{Bool, true, false, ◌&&◌, not, and-false}
use mathlib.Core.List.{List, [], ◌∷◌}
use Prim.Native.Nat.{ℕ, ◌+◌, ◌≤◌}
use native.Mathlib.Omega.{arith}
use lib.Dec.{leb}
use lib.IntN.{ℤ}
use borrow.Author.Tests.{le-leb, leb-false}
use Rattle.laws.specs.Choice.{bit}
use Rattle.laws.proofs.Tests.{by_cases, never}
use Rattle.settings.specs.declared.Settings.{Settings}
use Rattle.time.specs.Time.{longest, is_time}
use Rattle.queue.specs.Queue.{places, waits_of, laid}
use Rattle.detector.specs.Foreign.{signals_of, carrying, carried, eight_carried, no_signal}
use Rattle.detector.proofs.Signals.{few-carried}
use Rattle.verdict.specs.Verdict.{is_verdict}
use Rattle.event.specs.Kind.{of_sample}
use Rattle.event.specs.declared.Sample as sample
use Rattle.event.specs.declared.Event.{Event}
use Rattle.event.specs.declared.Event.TheVariants.{Sample, Run}
use Rattle.event.proofs.Facts.{timers}
use Rattle.line.specs.Line.{fresh_line}
use Rattle.line.specs.Effect.{replied}
use Rattle.line.specs.Sample.{step1, foreign_rises, running_tick, tick_of}
use Rattle.line.specs.Command.{ran}
use Rattle.line.specs.Tallying.{Out, recorded}
use Rattle.line.specs.State.{State, active_of}
use Rattle.line.specs.Step.{refused, out_on}
use Rattle.line.specs.declared.line.Line.{Line}
use Rattle.line.proofs.Accepted.{numbered}
use Rattle.line.proofs.Ticks.{used_of}
use Rattle.line.proofs.Facts.{fit_tells}
use Rattle.line.proofs.Signals.{tick-counts}
use Rattle.book.specs.Boxes.{outcome_of}
use Rattle.claim.specs.Run.{World, fresh_world, after, run_from, run}
use Rattle.claim.specs.RunningTick.{is_running_tick}
use Rattle.claim.specs.Signals.{taken_by, ended_at, used_up_by, added_up, SignalsKept}
use Rattle.claim.proofs.Level.{apart}
use Rattle.claim.proofs.RunningTicks.{ticks, recorded-shows, step_told}

-- ---- one event

pub record Kept (l : Line) (e : Event) (o : Out) : Type 0 where
  pub count : carried l.foreign + taken_by l e o.reply ≡ carried o.line.foreign + used_up_by l e o.reply
  pub still : is_running_tick l e o.reply ≡ false → o.line.foreign ≡ l.foreign

no_verdict : (d : Bool) (o : ℕ) → is_verdict o ≡ false → used_of d o ≡ 0
no_verdict d o h = rw (apart is_verdict o 6 refl h, apart is_verdict o 8 refl h) refl

-- what is no running tick and gives no verdict
quiet-kept : (l : Line) (e : Event) (o : Out) → is_running_tick l e o.reply ≡ false → o.line.foreign ≡ l.foreign → is_verdict (outcome_of o.reply) ≡ false → Kept l e o
unfolding taken_by used_up_by
quiet-kept l e o n f v =
    record { count = rw (n, f) (omega (arith, no_verdict (ended_at l e) (outcome_of o.reply) v)); still = λ _. f }

tick-kept : (l : Line) (a : Settings) (ts : List ℤ) (s : sample.Sample) → is_time l.setup.tf ≡ true → ticks l s ≡ true
    → Kept l (Sample s) (recorded (running_tick (step1 l s) (tick_of l a s)) a.target ts)
unfolding is_running_tick taken_by used_up_by ended_at step1
tick-kept l a ts s time t =
    let o = recorded (running_tick (step1 l s) (tick_of l a s)) a.target ts in
    let shows = recorded-shows (running_tick (step1 l s) (tick_of l a s)) a.target ts in
    let is : is_running_tick l (Sample s) o.reply ≡ true = rw shows.accepted t in
    record {
      count = rw (is, shows.foreign, shows.outcome) (tick-counts (step1 l s) (tick_of l a s) time);
      still = λ n. never (sym n ∙ is);
    }

step_kept : (s : State) (e : Event) → Kept s.line e (out_on s e)
unfolding is_running_tick replied ran
step_kept s e =
    let l = s.line in
    step_told (Kept l) s e
    (λ x f _ t. tick-kept l (active_of s) s.tallies x (le-leb l.setup.tf longest (timers l.setup f.setup).tf) t)
    (λ _. quiet-kept l Run _ refl refl refl)
    (λ o _ c. quiet-kept l e o c.tick c.foreign c.verdict)
    (λ r. quiet-kept l e (refused l s.tallies r) (rw (numbered r) refl) refl refl)

-- ---- at most eight

taken-few : (l : Line) (e : Event) (t : ℕ) → t ≤ 1 → (eight_carried l.foreign ≡ true → t ≡ 0) → carried l.foreign ≤ places → carried l.foreign + t ≤ places
unfolding eight_carried
taken-few l e t one none h =
    by_cases (leb places (carried l.foreign))
    (λ k. omega (arith, none k))
    (λ k. omega (arith, leb-false places (carried l.foreign) k))

pub bit-most : (b : Bool) → bit b ≤ 1
bit-most true = omega arith
bit-most false = omega arith

taken-one : (l : Line) (e : Event) (o : Out) → taken_by l e o.reply ≤ 1
unfolding taken_by
taken-one l e o = bit-most (is_running_tick l e o.reply && of_sample (foreign_rises l) false e && not (eight_carried l.foreign))

none-taken : (l : Line) (e : Event) (o : Out) → eight_carried l.foreign ≡ true → taken_by l e o.reply ≡ 0
unfolding taken_by
none-taken l e o h = rw (h, and-false) refl

few-after : (s : State) (e : Event) → carried s.line.foreign ≤ places → carried (out_on s e).line.foreign ≤ places
few-after s e h =
    let l = s.line in
    let o = out_on s e in
    omega (arith, (step_kept s e).count, taken-few l e (taken_by l e o.reply) (taken-one l e o) (none-taken l e o) h)

-- ---- every list

all-kept : (w : World) (es : List Event) → carried w.state.line.foreign + added_up taken_by w es ≡ carried (run_from w es).state.line.foreign + added_up used_up_by w es
unfolding added_up run_from
all-kept w [] = refl
all-kept w (e ∷ es) = omega (arith, (step_kept w.state e).count, all-kept (after w e) es)

few_always : (w : World) (es : List Event) → carried w.state.line.foreign ≤ places → carried (run_from w es).state.line.foreign ≤ places
unfolding run_from
few_always w [] h = h
few_always w (e ∷ es) h = few_always (after w e) es (few-after w.state e h)

none-carried : carried fresh_line.foreign ≡ 0
unfolding fresh_line no_signal carrying carried signals_of waits_of laid
none-carried = refl

pub signals_kept : SignalsKept
unfolding run
signals_kept =
    record {
      each = λ s e. (step_kept s e).count;
      still = λ s e h. (step_kept s e).still h;
      eight = λ s e h. few-after s e (few-carried s.line.foreign (fit_tells s.line h).foreign);
      every = λ es. omega (arith, all-kept fresh_world es, none-carried);
      few = λ es. few_always fresh_world es (omega (arith, none-carried));
    }
