-- What a running tick makes of bench mode's arming: only a gross up to nearzero arms, a box is detected by an armed line and
-- disarms it, and in mode 4 there is no two-on. Assumes nothing.
use mathlib.Core.Path.{◌≡◌, refl, sym, ◌∙◌}
use mathlib.Core.Bool.{true, false}
use Prim.Native.Nat.{ℕ}
use lib.Dec.{eqb}
use lib.IntN.{ℤ, pos}
use lib.Signed.{le_z}
use Rattle.laws.proofs.Tests.{if_ind, clash, never}
use Rattle.bench.specs.Bench.{ticked_on}
use Rattle.bench.specs.declared.Bench.{Bench}
use Rattle.bench.proofs.Grosses.{ticked_armed, disarmed_armed, detects_armed}
use Rattle.detector.specs.Foreign.{oldest_used}
use Rattle.event.specs.Setup.{is_bench}
use Rattle.item.specs.declared.Item.TheVariants.{None}
use Rattle.line.specs.Line.{with_foreign, with_item}
use Rattle.line.specs.Verdict.{given}
use Rattle.line.specs.Sample.{on_bench, step4, step5, step6, box_taken, ninth_signal, unless_ninth, running_tick}
use Rattle.line.specs.declared.sample.Tick.{Tick}
use Rattle.line.specs.declared.line.Line.{Line}
use Rattle.line.specs.Effect.{Effect}
use Rattle.line.proofs.Moves.{Judged}
use Rattle.line.proofs.Ticks.{given-same, six_ind, seven_ind}

-- ---- step 6 leaves bench and setup, and gives no two-on

record Sixth (m : Line) (e : Effect) : Type 0 where
  bench : e.line.bench ≡ m.bench
  setup : e.line.setup ≡ m.setup
  detected : e.detected ≡ 0
  alone : eqb e.outcome 7 ≡ false

given_sixth : (m k : Line) (v : ℕ) (net : ℤ) → k.bench ≡ m.bench → k.setup ≡ m.setup → Judged v → Sixth m (given k 0 v net)
unfolding given
given_sixth m k v net b s j =
    let same = given-same k 0 v net in
    record { bench = same.bench ∙ b; setup = same.setup ∙ s; detected = refl; alone = j.not7 }

six_sixth : (m : Line) (t : Tick) → Sixth m (step6 m t)
six_sixth m t =
    six_ind (Sixth m) m t
    (λ _. assumption)
    (record { bench = refl; setup = refl; detected = refl; alone = refl })
    (λ v net _ j _. given_sixth m (with_foreign (with_item m None) (oldest_used m.foreign)) v net refl refl j)
    (λ v net _ j _. given_sixth m (with_item m None) v net refl refl j)

-- ---- a running tick

pub record Arms (k : Line) (t : Tick) (e : Effect) : Type 0 where
  -- a box detected in mode 4: the line was armed, and is so no more
  pub taken : is_bench k.setup ≡ true → e.detected ≡ 1 → (eqb k.bench.armed 0 ≡ false) × (e.line.bench.armed ≡ 0)
  -- above nearzero nothing arms
  pub still : le_z t.gross t.active.nearzero ≡ false → k.bench.armed ≡ 0 → e.line.bench.armed ≡ 0
  pub alone : is_bench k.setup ≡ true → eqb e.outcome 7 ≡ false

-- the arming before step 4
on_bench_armed : (k : Line) (t : Tick) → le_z t.gross t.active.nearzero ≡ false → (on_bench k t).bench.armed ≡ k.bench.armed
unfolding on_bench
on_bench_armed k t h =
    if_ind (λ (b : Bench). b.armed ≡ k.bench.armed) (is_bench k.setup) (ticked_on k.bench t.gross t.active.nearzero) k.bench
    (λ _. ticked_armed k.bench t.gross t.active.nearzero h)
    (λ _. refl)

-- nothing is detected, and the bench is as before step 4
quiet_arms : (k : Line) (t : Tick) (e : Effect) → e.detected ≡ 0 → e.line.bench ≡ (on_bench k t).bench → eqb e.outcome 7 ≡ false → Arms k t e
quiet_arms k t e d b a =
    record {
      taken = λ _ h. clash (sym d ∙ h);
      still = λ g z. rw b (on_bench_armed k t g ∙ z);
      alone = λ _. a;
    }

-- on the belt
belt_arms : (k : Line) (t : Tick) (e : Effect) → is_bench k.setup ≡ false → e.line.bench ≡ (on_bench k t).bench → Arms k t e
belt_arms k t e m b =
    record {
      taken = λ h _. never (sym m ∙ h);
      still = λ g z. rw b (on_bench_armed k t g ∙ z);
      alone = λ h. never (sym m ∙ h);
    }

pub tick_arms : (k : Line) (t : Tick) → Arms k t (running_tick k t)
unfolding running_tick unless_ninth on_bench step4 step5 box_taken
tick_arms k t =
    let m = step5 (step4 (on_bench k t)) t in
    let e = step6 m t in
    let s = six_sixth m t in
    if_ind (Arms k t) (ninth_signal k t) _ _
    (λ _. quiet_arms k t _ refl refl refl)
    (λ _. seven_ind (Arms k t) e t
    (λ _ _ b. belt_arms k t _ (on-belt s b) ((given-same (with_item e.line None) 1 7 (pos 0)).bench ∙ s.bench))
    (λ _ _ b. belt_arms k t _ (on-belt s b) s.bench)
    (λ _ _ _ d. let a = detects_armed e.line.bench t.gross t.active.nearzero d in
    record {
      taken = λ _ _. (rw (s.bench, on_bench_armed k t a.1) at a.0, disarmed_armed e.line.bench);
      still = λ _ _. disarmed_armed e.line.bench;
      alone = λ _. s.alone;
    })
    (quiet_arms k t e s.detected s.bench s.alone))
  where
    on-belt : {e : Effect} → Sixth (step5 (step4 (on_bench k t)) t) e → is_bench e.line.setup ≡ false → is_bench k.setup ≡ false
    on-belt s b = rw s.setup at b
