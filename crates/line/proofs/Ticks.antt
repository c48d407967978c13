-- A sample and the other events on the line alone: the line stays fit and keeps its code and its chance to cancel, the boxes are
-- level, the net is a weight. Assumes nothing.
use mathlib.Core.Path.{◌≡◌, refl, sym, subst, ◌∙◌}
use mathlib.Core.Bool.{Bool, true, false, ◌&&◌, ◌||◌, not}
use mathlib.Core.Logic.{◌⊎◌, inl, inr, ⊎_elim}
use Prim.Native.Nat.{ℕ}
use lib.Dec.{eqb, T}
use lib.IntN.{ℤ, pos, ◌-ℤ◌}
use lib.Signed.{lt_z, le_z}
use borrow.Author.Tests.{eqb-true, not-true}
use Rattle.laws.specs.Choice.{when◌then◌else◌, bit}
use Rattle.weight.specs.Weight.{is_weight}
use Rattle.laws.proofs.Tests.{both, if_ind, never}
use Rattle.mask.specs.Bits.{marked, lowest_off}
use Rattle.settings.specs.Settings.{record_fit}
use Rattle.settings.specs.Grade.{grade_of}
use Rattle.settings.specs.declared.Settings.{Settings}
use Rattle.settings.proofs.Facts.{net-weight}
use Rattle.bench.specs.Bench.{begun, detects, disarmed}
use Rattle.bench.proofs.Grosses.{begun-fit, disarmed-fit}
use Rattle.detector.specs.Foreign.{due, oldest_used}
use Rattle.detector.proofs.Signals.{used_fit}
use Rattle.event.specs.Setup.{is_bench}
use Rattle.event.specs.declared.Sample.{Sample}
use Rattle.event.proofs.Facts.{timers, InRange}
use Rattle.verdict.specs.Verdict.{is_grade}
use Rattle.status.specs.Status.{stopped, running, paused, emergency, ninth_error, error_known}
use Rattle.line.specs.Line.{is_running, busy, with_status, with_foreign, with_item, with_bench}
use Rattle.event.specs.Reply.{no_error}
use Rattle.item.specs.Item.{in_hand, item_fit, new_item, weighed}
use Rattle.sorters.specs.Sorters.{any_blocks}
use Rattle.line.specs.Effect.{Effect, plain, dismissed, halted, halting}
use Rattle.line.specs.Verdict.{sorted_for, stopped_for, given, or_crash, verdict_of, judged}
use Rattle.line.specs.Sample.{step1, step2, step3, on_bench, step4, step5, step6, step7, after_weighing, box_taken, detecting, by_sensor, by_hand, ninth_signal, unless_ninth, running_tick, guarded, from_step3, sampled, tick_of}
use Rattle.line.specs.Command.{ran, stopping, alarmed}
use Rattle.line.specs.declared.sample.Tick.{Tick}
use Rattle.line.specs.declared.line.Line.{Line}
use Rattle.item.specs.declared.Item.TheVariants.{None}
use Rattle.item.specs.declared.Weighed.{Weighed}
use Rattle.item.specs.declared.Weighed.TheVariants.{Still, Mean}
use Rattle.item.specs.declared.Item.{Item}
use Rattle.line.proofs.Facts.{FitLine}
use Rattle.line.proofs.Moves as moves
use Rattle.line.proofs.Moves.{Moves, Judged, grade_judged, foreign-judged, crash-judged}
use Rattle.line.proofs.Keeps.{Running, running-status, error-none, with_item_lem, with_foreign_lem, with_bench_lem, with_paused, fit-step1, fit-on_bench, fit-step4, fit-step5, fit-sorted, fit-stopped, fit_stop, fit-emergency}
use Rattle.item.proofs.Keeps.{Weighs, still, mean, weighing, new-fit, new-in_hand}

abbrev pub hand : Line → ℕ
hand l = bit (in_hand l.item)

-- what every accepted event that gives an effect does
pub record Went (l : Line) (e : Effect) : Type 0 where
  pub fit : FitLine e.line
  pub code : e.line.code ≡ l.code
  pub undo : e.line.undo ≡ l.undo
  pub boxes : Moves (hand l) e.detected e.outcome (hand e.line)
  pub net : is_weight e.net ≡ true

pub to-running : (l : Line) → FitLine l → is_running l ≡ true → Running l
to-running l f h =
    let s : l.status ≡ running = eqb-true l.status running h in
    record { fit = f; status = s; error = error-none l f.status s }

-- ---- a verdict given

pub record Gives (l : Line) (d v : ℕ) (e : Effect) : Type 0 where
  pub fit : FitLine e.line
  pub code : e.line.code ≡ l.code
  pub undo : e.line.undo ≡ l.undo
  pub item : e.line.item ≡ l.item
  pub detected : e.detected ≡ d
  pub outcome : e.outcome ≡ v
  pub net : is_weight e.net ≡ true

-- what a verdict leaves as it was
pub record Same (l m : Line) : Type 0 where
  pub code : m.code ≡ l.code
  pub undo : m.undo ≡ l.undo
  pub item : m.item ≡ l.item
  pub foreign : m.foreign ≡ l.foreign
  pub setup : m.setup ≡ l.setup
  pub bench : m.bench ≡ l.bench

sorted-same : (l : Line) (v : ℕ) → Same l (sorted_for l v)
unfolding sorted_for
sorted-same l v = assumption

stopped-same : (l : Line) (v : ℕ) → Same l (stopped_for l v)
unfolding stopped_for
stopped-same l v =
    if_ind (Same l) (marked l.setup.stop v) _ _ (λ _. assumption) (λ _. assumption)

pub given-same : (l : Line) (d v : ℕ) (net : ℤ) → Same l (given l d v net).line
unfolding given
given-same l d v net =
    let a = sorted-same l v in
    let b = stopped-same (sorted_for l v) v in
    record { code = b.code ∙ a.code; undo = b.undo ∙ a.undo; item = b.item ∙ a.item; foreign = b.foreign ∙ a.foreign; setup = b.setup ∙ a.setup; bench = b.bench ∙ a.bench }

gives : (l : Line) (d v : ℕ) (net : ℤ) → Running l → is_weight net ≡ true → Gives l d v (given l d v net)
unfolding given
gives l d v net r w =
    let a = given-same l d v net in
    record {
      fit = fit-stopped (sorted_for l v) v (fit-sorted l v r).fit;
      code = a.code;
      undo = a.undo;
      item = a.item;
      detected = refl;
      outcome = refl;
      net = if_ind (λ (x : ℤ). is_weight x ≡ true) (is_grade v) _ _ (λ _. w) (λ _. refl);
    }

-- ---- step 6

-- what an outcome uses up of the signals, where d says whether one has ended
abbrev pub used_of : Bool → ℕ → ℕ
used_of d o = bit (eqb o 6 || eqb o 8 && d)

crash_uses : (l : Line) (d : Bool) (v n : ℕ) → used_of d 8 ≡ n → used_of d v ≡ n → used_of d (or_crash l v) ≡ n
unfolding or_crash
crash_uses l d v n c h = if_ind (λ (o : ℕ). used_of d o ≡ n) (any_blocks v l.sorters l.setup.sorters) 8 v (λ _. c) (λ _. h)

grade_uses : (a : Settings) (net : ℤ) → used_of false (grade_of a net) ≡ 0
unfolding grade_of
grade_uses a net =
    if_ind None-used (lt_z net a.lolo) _ _ (λ _. refl)
    (λ _. if_ind None-used (lt_z net a.lo) _ _ (λ _. refl)
    (λ _. if_ind None-used (le_z net a.hi) _ _ (λ _. refl)
    (λ _. if_ind None-used (le_z net a.hihi) 4 5 (λ _. refl) (λ _. refl))))
  where
    None-used : ℕ → Type 0
    None-used o = used_of false o ≡ 0

-- what can come of a box with mean x: it is dismissed, or has the verdict of an ended signal, which is used up, or that of its net
pub judged_ind :
    (P : Effect → Type 0) (m : Line) (a : Settings) (x : ℤ)
    → let k = with_item m None in
    let net = x -ℤ a.tare in
    P (dismissed k)
    → ((v : ℕ) → le_z x a.nearzero ≡ false → due m.foreign ≡ true → Judged v → used_of true v ≡ 1 → P (given (with_foreign k (oldest_used m.foreign)) 0 v net))
    → ((v : ℕ) → le_z x a.nearzero ≡ false → due m.foreign ≡ false → Judged v → used_of false v ≡ 0 → P (given k 0 v net))
    → P (judged k a x)
unfolding judged verdict_of
judged_ind P m a x none foreign grade =
    let k = with_item m None in
    let g = grade_of a (x -ℤ a.tare) in
    if_ind P (le_z x a.nearzero) _ _
    (λ _. none)
    (λ w. if_ind P (due m.foreign) _ _
    (λ d. foreign (or_crash k 6) w d (crash-judged k 6 foreign-judged) (crash_uses k true 6 1 refl refl))
    (λ d. grade (or_crash k g) w d (crash-judged k g (grade_judged a _)) (crash_uses k false g 0 refl (grade_uses a _))))

-- what step 6 can come to: an item in hand that ticked or none, and on its last tick one of these
pub six_ind :
    (P : Effect → Type 0) (m : Line) (t : Tick)
    → let k = with_item m None in
    ((i : Item) → P (plain (with_item m i)))
    → P (dismissed k)
    → ((v : ℕ) (net : ℤ) → due m.foreign ≡ true → Judged v → used_of true v ≡ 1 → P (given (with_foreign k (oldest_used m.foreign)) 0 v net))
    → ((v : ℕ) (net : ℤ) → due m.foreign ≡ false → Judged v → used_of false v ≡ 0 → P (given k 0 v net))
    → P (step6 m t)
unfolding step6 after_weighing
six_ind P m t goes none foreign grade = by_weighed (weighed m.item m.setup t.gross)
  where
    by_weighed : (w : Weighed) → P (after_weighing m t.active w)
    by_weighed (Still i) = goes i
    by_weighed (Mean x) = judged_ind P m t.active x none (λ v _ d j u. foreign v _ d j u) (λ v _ d j u. grade v _ d j u)

-- nothing came of it yet
pub record Stays (l : Line) (e : Effect) : Type 0 where
  pub run : Running e.line
  pub code : e.line.code ≡ l.code
  pub undo : e.line.undo ≡ l.undo
  pub same : in_hand e.line.item ≡ in_hand l.item
  pub detected : e.detected ≡ 0
  pub outcome : e.outcome ≡ 0
  pub net : is_weight e.net ≡ true

-- the box was judged or dismissed, and nothing is in hand
pub record Ends (l : Line) (e : Effect) : Type 0 where
  pub fit : FitLine e.line
  pub code : e.line.code ≡ l.code
  pub undo : e.line.undo ≡ l.undo
  pub was : in_hand l.item ≡ true
  pub none : e.line.item ≡ None
  pub detected : e.detected ≡ 0
  pub outcome : Judged e.outcome ⊎ (e.outcome ≡ 9)
  pub net : is_weight e.net ≡ true

judged-ends : (l k : Line) (v : ℕ) (net : ℤ) → Running k → k.code ≡ l.code → k.undo ≡ l.undo → k.item ≡ None → in_hand l.item ≡ true → Judged v → is_weight net ≡ true → Ends l (given k 0 v net)
judged-ends l k v net r c u i w j n =
    let g = gives k 0 v net r n in
    record {
      fit = g.fit;
      code = g.code ∙ c;
      undo = g.undo ∙ u;
      was = w;
      none = g.item ∙ i;
      detected = g.detected;
      outcome = inl (subst Judged (sym g.outcome) j);
      net = g.net;
    }

mean-ends : (l : Line) (a : Settings) (m : ℤ) → Running (with_item l None) → in_hand l.item ≡ true → record_fit a ≡ true → is_weight m ≡ true → Ends l (judged (with_item l None) a m)
unfolding oldest_used
mean-ends l a m r w f h =
    let k = with_item l None in
    judged_ind (Ends l) l a m
    (record { fit = r.fit; code = refl; undo = refl; was = w; none = refl; detected = refl; outcome = inr refl; net = refl })
    (λ v g _ j _. judged-ends l (with_foreign k (oldest_used l.foreign)) v (m -ℤ a.tare)
    (with_foreign_lem k (oldest_used l.foreign) r (used_fit l.foreign r.fit.foreign)) refl refl refl w j (net-weight a m f h g))
    (λ v g _ j _. judged-ends l k v (m -ℤ a.tare) r refl refl refl w j (net-weight a m f h g))

after_weighing_lem : (l : Line) (a : Settings) {w : Weighed} → Running l → record_fit a ≡ true → Weighs l.item l.setup w → Stays l (after_weighing l a w) ⊎ Ends l (after_weighing l a w)
unfolding after_weighing item_fit
after_weighing_lem l a r f (still j g s) =
    inl (record { run = with_item_lem l j r g; code = refl; undo = refl; same = s; detected = refl; outcome = refl; net = refl })
after_weighing_lem l a r f (mean m w h) = inr (mean-ends l a m (with_item_lem l None r refl) w f h)

six : (l : Line) (t : Tick) → Running l → record_fit t.active ≡ true → is_weight t.gross ≡ true → Stays l (step6 l t) ⊎ Ends l (step6 l t)
unfolding step6
six l t r f g =
    after_weighing_lem l t.active r f
    (weighing l.item l.setup t.gross (timers l.setup r.fit.setup) r.fit.item g)

-- ---- step 7

two-on_goes : (l : Line) (e : Effect) → Stays l e → in_hand e.line.item ≡ true → Went l (given (with_item e.line None) 1 7 (pos 0))
unfolding item_fit
two-on_goes l e s h =
    let g = gives (with_item e.line None) 1 7 (pos 0) (with_item_lem e.line None s.run refl) refl in
    record {
      fit = g.fit;
      code = g.code ∙ s.code;
      undo = g.undo ∙ s.undo;
      boxes = rw (sym s.same ∙ h, g.detected, g.outcome, g.item) moves.two-on;
      net = g.net;
    }

-- a box taken after step 6
taken_goes : (l k : Line) (e : Effect) → Running k → k.code ≡ l.code → k.undo ≡ l.undo → is_weight e.net ≡ true → Moves (hand l) 1 e.outcome 1 → Went l (box_taken e k)
unfolding box_taken
taken_goes l k e r c u n v =
    record {
      fit = (with_item_lem k (new_item k.setup) r (new-fit k.setup (timers k.setup r.fit.setup))).fit;
      code = c;
      undo = u;
      boxes = rw (new-in_hand k.setup) v;
      net = n;
    }

stays_went : (l : Line) (e : Effect) → Stays l e → Went l e
stays_went l e s =
    record {
      fit = s.run.fit;
      code = s.code;
      undo = s.undo;
      boxes = rw (s.detected, s.outcome, s.same) (moves.still (hand l));
      net = s.net;
    }

ends_went : (l : Line) (e : Effect) → Ends l e → Went l e
ends_went l e s =
    record {
      fit = s.fit;
      code = s.code;
      undo = s.undo;
      boxes = rw (s.was, s.detected, s.none) (⊎_elim (λ j. moves.judged e.outcome j) (λ z. rw z moves.dismissed) s.outcome);
      net = s.net;
    }

-- what step 7 can make of an effect: two-on, a box taken by the sensor or by hand, or nothing
pub seven_ind :
    (P : Effect → Type 0) (e : Effect) (t : Tick)
    → (in_hand e.line.item ≡ true → is_running e.line ≡ true → is_bench e.line.setup ≡ false → P (given (with_item e.line None) 1 7 (pos 0)))
    → (in_hand e.line.item ≡ false → is_running e.line ≡ true → is_bench e.line.setup ≡ false → P (box_taken e e.line))
    → (in_hand e.line.item ≡ false → is_running e.line ≡ true → is_bench e.line.setup ≡ true → detects e.line.bench t.gross t.active.nearzero ≡ true
    → P (box_taken e (with_bench e.line (disarmed e.line.bench))))
    → P e
    → P (step7 e t)
unfolding step7 by_sensor by_hand detecting
seven_ind P e t two box plate none =
    if_ind P (is_running e.line) _ _
    (λ r. if_ind P (is_bench e.line.setup) _ _
    (λ m. if_ind P (not (in_hand e.line.item) && detects e.line.bench t.gross t.active.nearzero) _ _
    (λ h. let b = both (not (in_hand e.line.item)) (detects e.line.bench t.gross t.active.nearzero) h in plate (not-true _ b.0) r m b.1)
    (λ _. none))
    (λ m. if_ind P t.made _ _
    (λ _. if_ind P (in_hand e.line.item) _ _ (λ h. two h r m) (λ h. box h r m))
    (λ _. none)))
    (λ _. none)

seven : (l : Line) (e : Effect) (t : Tick) → Stays l e ⊎ Ends l e → Went l (step7 e t)
seven l e t s =
    ⊎_elim
    (λ x. seven_ind (Went l) e t
    (λ h _ _. two-on_goes l e x h)
    (λ h _ _. taken_goes l e.line e x.run x.code x.undo x.net (stays-moves l e x h))
    (λ h _ _ _. taken_goes l _ e (disarms e.line x.run) x.code x.undo x.net (stays-moves l e x h))
    (stays_went l e x))
    (λ x. seven_ind (Went l) e t
    (λ h _ _. never (rw x.none at h))
    (λ _ r _. taken_goes l e.line e (to-running e.line x.fit r) x.code x.undo x.net (ends-moves l e x))
    (λ _ r _ _. taken_goes l _ e (disarms e.line (to-running e.line x.fit r)) x.code x.undo x.net (ends-moves l e x))
    (ends_went l e x))
    s
  where
    disarms : (k : Line) → Running k → Running (with_bench k (disarmed k.bench))
    disarms k r = with_bench_lem k (disarmed k.bench) r (disarmed-fit k.bench r.fit.bench)

    stays-moves : (l : Line) (e : Effect) → Stays l e → in_hand e.line.item ≡ false → Moves (hand l) 1 e.outcome 1
    stays-moves l e x h = rw (sym x.same ∙ h, x.outcome) moves.detected

    ends-moves : (l : Line) (e : Effect) → Ends l e → Moves (hand l) 1 e.outcome 1
    ends-moves l e x = rw x.was (⊎_elim (λ j. moves.judged-next e.outcome j) (λ z. rw z moves.dismissed-next) x.outcome)

-- ---- a running tick, and a sample

-- seen from another line with the same code, chance and item
went_from : (k l : Line) (e : Effect) → k.code ≡ l.code → k.undo ≡ l.undo → k.item ≡ l.item → Went k e → Went l e
went_from k l e c u i w =
    record { fit = w.fit; code = w.code ∙ c; undo = w.undo ∙ u; boxes = rw (← i) w.boxes; net = w.net }

pub plain_goes : (l k : Line) → FitLine k → k.code ≡ l.code → k.undo ≡ l.undo → k.item ≡ l.item → Went l (plain k)
plain_goes l k f c u i = record { fit = f; code = c; undo = u; boxes = rw i (moves.still (hand l)); net = refl }

tick_goes : (l : Line) (t : Tick) → Running l → record_fit t.active ≡ true → is_weight t.gross ≡ true → Went l (running_tick l t)
unfolding running_tick unless_ninth on_bench step4 step5 error_known
tick_goes l t r f g =
    let b = on_bench l t in
    let k = step5 (step4 b) t in
    let run : Running k = fit-step5 (step4 b) t (fit-step4 b (fit-on_bench l t r g)) in
    went_from k l _ refl refl refl
    (if_ind (Went k) (ninth_signal l t) _ _
    (λ _. plain_goes k (with_status k paused ninth_error) (with_paused k ninth_error run.fit refl) refl refl refl)
    (λ _. seven k (step6 k t) t (six k t run f g)))

halting_goes : (l : Line) (s : ℕ) → FitLine (halted l s) → Went l (halting l s)
unfolding halting halted
halting_goes l s f =
    record { fit = f; code = refl; undo = refl; boxes = all (in_hand l.item); net = refl }
  where
    all : (b : Bool) → Moves (bit b) 0 (when b then 10 else 0) 0
    all true = moves.abandoned
    all false = moves.still 0

guarded_goes : (l : Line) (t : Tick) → FitLine l → record_fit t.active ≡ true → is_weight t.gross ≡ true → Went l (guarded l t)
unfolding guarded
guarded_goes l t r f g =
    if_ind (Went l) (is_running l) _ _
    (λ h. tick_goes l t (to-running l r h) f g)
    (λ _. plain_goes l l r refl refl refl)

step3_goes : (l : Line) (t : Tick) → FitLine l → record_fit t.active ≡ true → is_weight t.gross ≡ true → Went l (guarded (step3 l) t)
unfolding step3 error_known
step3_goes l t r f g =
    if_ind (λ (k : Line). Went l (guarded k t)) (eqb (lowest_off l.setup.need l.last.safety) 0) _ _
    (λ _. guarded_goes l t r f g)
    (λ _. let k = with_status l paused 1 in
    went_from k l _ refl refl refl (guarded_goes k t (with_paused l 1 r refl) f g))

from_step3_lem : (l : Line) (e : Effect) (t : Tick) → (is_running e.line ≡ true → e ≡ plain l) → FitLine l → Went l e → record_fit t.active ≡ true → is_weight t.gross ≡ true → Went l (from_step3 e t)
unfolding from_step3
from_step3_lem l e t p r w f g =
    if_ind (Went l) (is_running e.line) _ _
    (λ h. rw (p h) (step3_goes l t r f g))
    (λ _. w)

-- step 2 leaves a line running only where it changes nothing
step2_goes : (l : Line) (level : ℕ) → FitLine l → Went l (step2 l level) × (is_running (step2 l level).line ≡ true → step2 l level ≡ plain l)
unfolding step2 halting halted
step2_goes l level f =
    if_ind Holds (eqb level 1) _ _
    (λ _. (halting_goes l emergency (fit-emergency l f), λ h. absurd (subst T (sym h) tt)))
    (λ _. if_ind Holds (eqb l.status emergency) _ _
    (λ _. (halting_goes l stopped (fit_stop l f), λ h. absurd (subst T (sym h) tt)))
    (λ _. (plain_goes l l f refl refl refl, λ _. refl)))
  where
    Holds : Effect → Type 0
    Holds e = Went l e × (is_running e.line ≡ true → e ≡ plain l)

pub sample_goes : (l : Line) (a : Settings) (s : Sample) → FitLine l → record_fit a ≡ true → InRange s → Went l (sampled l a s)
unfolding sampled step1
sample_goes l a s f r g =
    let k = step1 l s in
    let two = step2_goes k s.emergency (fit-step1 l s f g) in
    went_from k l _ refl refl refl
    (from_step3_lem k (step2 k s.emergency) (tick_of l a s) two.1 (fit-step1 l s f g) two.0 r g.gross)

-- ---- run, stop, emergency

pub run_goes : (l : Line) → FitLine l → Went l (ran l)
unfolding ran
run_goes l f =
    let b = begun l.bench (eqb l.status stopped) in
    let k = with_bench (with_status l running no_error) b in
    plain_goes l k (assumption (f, running-status k refl refl, begun-fit l.bench (eqb l.status stopped))) refl refl refl

pub stop_goes : (l : Line) → FitLine l → Went l (stopping l)
unfolding stopping error_known
stop_goes l f =
    if_ind (Went l) (is_running l && busy l) _ _
    (λ _. plain_goes l (with_status l paused 0) (with_paused l 0 f refl) refl refl refl)
    (λ _. if_ind (Went l) (eqb l.status stopped) _ _
    (λ _. plain_goes l l f refl refl refl)
    (λ _. halting_goes l stopped (fit_stop l f)))

pub emergency_goes : (l : Line) → FitLine l → Went l (alarmed l)
unfolding alarmed
emergency_goes l f = halting_goes l emergency (fit-emergency l f)
