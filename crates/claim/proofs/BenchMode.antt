-- Bench mode over one event and over every list: an arming between two detections, and no two-on. Assumes nothing.
use mathlib.Core.Path.{◌≡◌, refl, sym, ◌∙◌}
use mathlib.Core.Bool.{true, false, ◌||◌}
use mathlib.Core.List.{List, [], ◌∷◌}
use Prim.Native.Nat.{ℕ}
use native.Mathlib.Omega.{arith}
use lib.Dec.{eqb}
use lib.IntN.{ℤ}
use borrow.Author.Tests.{eqb-true, eqb-false, eq-eqb}
use Rattle.laws.specs.Choice.{within}
use Rattle.laws.proofs.Tests.{both, neither, by_cases, clash, never}
use Rattle.settings.specs.declared.Settings.{Settings}
use Rattle.verdict.specs.Verdict.{is_verdict}
use Rattle.bench.proofs.Grosses.{begun_armed}
use Rattle.event.specs.Setup.{bench_mode, is_bench}
use Rattle.event.specs.declared.Sample as sample
use Rattle.event.specs.declared.Event.{Event}
use Rattle.event.specs.declared.Event.TheVariants.{Sample, Run}
use Rattle.event.proofs.Facts.{timers}
use Rattle.status.specs.Status.{stopped}
use Rattle.line.specs.Effect.{replied}
use Rattle.line.specs.Sample.{step1, running_tick, tick_of}
use Rattle.line.specs.Command.{ran}
use Rattle.line.specs.Tallying.{Out, untallied, recorded}
use Rattle.line.specs.State.{State, active_of}
use Rattle.line.specs.Step.{refused, out_on}
use Rattle.line.specs.declared.line.Line.{Line}
use Rattle.line.proofs.Facts.{FitLine}
use Rattle.line.proofs.Bench.{Arms, tick_arms}
use Rattle.book.specs.Boxes.{detected_by, outcome_of}
use Rattle.claim.specs.Run.{World, after, run_from, run}
use Rattle.claim.specs.RunningTick.{is_running_tick}
use Rattle.claim.specs.BenchMode.{taken_by_hand, armed_by, armed_in, BenchMode}
use Rattle.claim.proofs.Level.{apart}
use Rattle.claim.proofs.RunningTicks.{ticks, recorded-shows, step_told}

-- ---- one event

record Arming (l : Line) (a : Settings) (e : Event) (o : Out) : Type 0 where
  -- a box detected in mode 4: the line was armed, and is so no more
  taken : taken_by_hand l o.reply ≡ true → (eqb l.bench.armed 0 ≡ false) × (o.line.bench.armed ≡ 0)
  still : armed_by l a e o.reply ≡ false → l.bench.armed ≡ 0 → o.line.bench.armed ≡ 0
  alone : is_bench l.setup ≡ true → eqb (outcome_of o.reply) 7 ≡ false

-- what detects nothing, gives no verdict and leaves the bench
quiet_arming : (l : Line) (a : Settings) (e : Event) (o : Out) → detected_by o.reply ≡ 0 → o.line.bench ≡ l.bench → is_verdict (outcome_of o.reply) ≡ false → Arming l a e o
unfolding taken_by_hand
quiet_arming l a e o d b v =
    record {
      taken = λ h. clash (sym d ∙ eqb-true (detected_by o.reply) 1 (both (is_bench l.setup) (eqb (detected_by o.reply) 1) h).1);
      still = λ _ z. rw b z;
      alone = λ _. apart is_verdict (outcome_of o.reply) 7 refl v;
    }

tick_arming : (l : Line) (a : Settings) (ts : List ℤ) (s : sample.Sample) → ticks l s ≡ true → Arming l a (Sample s) (recorded (running_tick (step1 l s) (tick_of l a s)) a.target ts)
unfolding is_running_tick taken_by_hand armed_by step1
tick_arming l a ts s t =
    let x = running_tick (step1 l s) (tick_of l a s) in
    let o = recorded x a.target ts in
    let shows = recorded-shows x a.target ts in
    let is : is_running_tick l (Sample s) o.reply ≡ true = rw shows.accepted t in
    let arms : Arms (step1 l s) (tick_of l a s) x = tick_arms (step1 l s) (tick_of l a s) in
    record {
      taken = λ h. let b = both (is_bench l.setup) (eqb (detected_by o.reply) 1) h in
          rw shows.bench (arms.taken b.0 (sym shows.detected ∙ eqb-true (detected_by o.reply) 1 b.1));
      still = λ n z. rw shows.bench (arms.still (rw is at n) z);
      alone = λ m. rw shows.outcome (arms.alone m);
    }

run_arming : (l : Line) (a : Settings) (ts : List ℤ) → Arming l a Run (untallied (ran l) ts)
unfolding ran replied taken_by_hand armed_by
run_arming l a ts =
    record {
      taken = λ h. never (both (is_bench l.setup) false h).1;
      still = λ n z. by_cases (eqb l.status stopped) (λ t. never (sym (rw t at n))) (λ t. rw t (begun_armed l.bench ∙ z));
      alone = λ _. refl;
    }

step_arming : (s : State) (e : Event) → Arming s.line (active_of s) e (out_on s e)
step_arming s e =
    let l = s.line in
    let a = active_of s in
    step_told (Arming l a) s e
    (λ x _ _ t. tick_arming l a s.tallies x t)
    (λ _. run_arming l a s.tallies)
    (λ o _ c. quiet_arming l a e o c.detected c.bench c.verdict)
    (λ r. quiet_arming l a e (refused l s.tallies r) refl refl refl)

-- ---- no two-on in mode 4

in_mode : (m : ℕ) → within 1 2 m || eqb m bench_mode ≡ true → eqb m bench_mode ≡ false → within 1 2 m ≡ true
in_mode m h n = by_cases (within 1 2 m) (λ y. y) (λ z. never (rw (z, n) at h))

-- a reply with a verdict was accepted, so its line was fit
two-on-mode : (s : State) (e : Event) → outcome_of (out_on s e).reply ≡ 7 → within 1 2 s.line.setup.mode ≡ true
unfolding replied
two-on-mode s e h =
    let l = s.line in
    let fit = step_told (λ _ (o : Out). outcome_of o.reply ≡ 7 → FitLine l) s e (λ _ f _ _ _. f) (λ f _. f) (λ _ f _ _. f) (λ _ z. absurd (omega (arith, z))) h in
    in_mode l.setup.mode (timers l.setup fit.setup).mode
    (by_cases (is_bench l.setup)
    (λ b. never (sym ((step_arming s e).alone b) ∙ eq-eqb (outcome_of (out_on s e).reply) 7 h))
    (λ b. b))

-- ---- every list

-- without an arming a line that is not armed stays so
still-from : (w : World) (es : List Event) → w.state.line.bench.armed ≡ 0 → armed_in w es ≡ false → (run_from w es).state.line.bench.armed ≡ 0
unfolding armed_in run_from
still-from w [] z n = z
still-from w (e ∷ es) z n =
    let b = neither (armed_by w.state.line (active_of w.state) e (out_on w.state e).reply) (armed_in (after w e) es) n in
    still-from (after w e) es ((step_arming w.state e).still b.0 z) b.1

armed_between :
    (w : World) (first second : Event) (between : List Event)
    → taken_by_hand w.state.line (out_on w.state first).reply ≡ true
    → let last = run_from (after w first) between in
    taken_by_hand last.state.line (out_on last.state second).reply ≡ true
    → armed_in (after w first) between ≡ true
armed_between w first second between f s =
    let then = after w first in
    by_cases (armed_in then between)
    (λ y. y)
    (λ n. absurd
    (eqb-false _ 0 ((step_arming (run_from then between).state second).taken s).0
    (still-from then between ((step_arming w.state first).taken f).1 n)))

pub in_bench_mode : BenchMode
in_bench_mode =
    record {
      alone = λ es e h. two-on-mode (run es).state e h;
      once = λ es between first second f s. armed_between (run es) first second between f s;
    }
