-- The running ticks that the box in hand has left: a running tick takes one of them, unless error 7 ends it, and a box is judged
-- or dismissed on the last. Assumes nothing.
use mathlib.Core.Path.{◌≡◌, refl, sym, ◌∙◌}
use mathlib.Core.Bool.{Bool, true, false, not}
use Prim.Native.Nat.{ℕ, ◌+◌, ◌≤◌}
use native.Mathlib.Omega.{arith}
use lib.Dec.{eqb}
use lib.IntN.{ℤ, ◌-ℤ◌}
use Rattle.laws.specs.Choice.{bit}
use Rattle.laws.proofs.Tests.{if_ind, clash, never}
use Rattle.weight.specs.Weight.{is_weight}
use Rattle.mask.specs.Bits.{marked}
use Rattle.settings.specs.declared.Settings.{Settings}
use Rattle.bench.specs.Bench.{disarmed}
use Rattle.detector.specs.Foreign.{oldest_used}
use Rattle.status.specs.Status.{ninth_error, error_for}
use Rattle.item.specs.Item.{in_hand, item_fit}
use Rattle.item.specs.declared.Item.TheVariants.{None}
use Rattle.item.specs.declared.Weighed.{Weighed}
use Rattle.item.proofs.Left.{left, new-left, Falls, still, mean, weighing-falls}
use Rattle.line.specs.Line.{with_foreign, with_item, with_bench}
use Rattle.line.specs.Effect.{Effect, halting}
use Rattle.line.specs.Verdict.{sorted_for, stopped_for, given, judged}
use Rattle.line.specs.Sample.{on_bench, step4, step5, step6, after_weighing, box_taken, step7, ninth_signal, unless_ninth, running_tick}
use Rattle.line.specs.declared.sample.Tick.{Tick}
use Rattle.line.specs.declared.line.Line.{Line}
use Rattle.line.proofs.Moves.{Judged}
use Rattle.line.proofs.Ticks.{given-same, judged_ind, seven_ind}

abbrev pub left_on : Line → ℕ
left_on l = left l.item l.setup.ta

-- error 7, in which a line does not run: a running tick that has it was ended by it
abbrev pub is_ninth : ℕ → Bool
is_ninth error = eqb error ninth_error

-- an event that counts for t ticks makes k of the line l, with this detected and outcome
pub record Times (l : Line) (t : ℕ) (k : Line) (detected outcome : ℕ) : Type 0 where
  -- a box in hand without an outcome has t ticks less
  pub falls : in_hand l.item ≡ true → outcome ≡ 0 → left_on k + t ≡ left_on l
  -- with an outcome other than two-on and abandoned, it had no more
  pub last : in_hand l.item ≡ true → eqb outcome 0 ≡ false → eqb outcome 7 ≡ false → eqb outcome 10 ≡ false → left_on l ≤ t
  -- one that is detected, and not in a two-on, has tw + ta
  pub begins : detected ≡ 1 → eqb outcome 7 ≡ false → left_on k ≡ l.setup.tw + l.setup.ta

abbrev pub Timed : Line → ℕ → Effect → Type 0
Timed l t e = Times l t e.line e.detected e.outcome

-- ---- no tick

pub quiet-times : (l k : Line) → k.item ≡ l.item → k.setup ≡ l.setup → Times l 0 k 0 0
quiet-times l k i s =
    record { falls = λ _ _. rw (i, s) (omega arith); last = λ _ z _ _. never (sym z); begins = λ d _. clash d }

pub halting-times : (l : Line) (s : ℕ) → Timed l 0 (halting l s)
unfolding halting
halting-times l s =
    record {
      falls = λ i z. absurd (omega (arith, rw i at z));
      last = λ i _ _ z. never (sym (rw i at z));
      begins = λ d _. clash d;
    }

-- ---- step 6

record Sixth (m : Line) (e : Effect) : Type 0 where
  setup : e.line.setup ≡ m.setup
  on : is_ninth e.line.error ≡ false
  detected : e.detected ≡ 0
  falls : in_hand m.item ≡ true → e.outcome ≡ 0 → (in_hand e.line.item ≡ true) × (left_on e.line + 1 ≡ left_on m)
  last : eqb e.outcome 0 ≡ false → left_on m ≤ 1

-- a verdict's error is another
given-on : (l : Line) (d v : ℕ) (net : ℤ) → is_ninth l.error ≡ false → is_ninth (given l d v net).line.error ≡ false
unfolding given stopped_for sorted_for error_for
given-on l d v net h =
    if_ind (λ (k : Line). is_ninth k.error ≡ false) (marked l.setup.stop v) _ _
    (λ _. if_ind Other (eqb v 7) _ _ (λ _. refl) (λ _. if_ind Other (eqb v 6) _ _ (λ _. refl) (λ _. if_ind Other (eqb v 8) _ _ (λ _. refl) (λ _. refl))))
    (λ _. h)
  where
    Other : ℕ → Type 0
    Other e = is_ninth e ≡ false

given_sixth : (m k : Line) (v : ℕ) (net : ℤ) → k.setup ≡ m.setup → is_ninth k.error ≡ false → left_on m ≤ 1 → Judged v → Sixth m (given k 0 v net)
unfolding given
given_sixth m k v net s n h j =
    record {
      setup = (given-same k 0 v net).setup ∙ s;
      on = given-on k 0 v net n;
      detected = refl;
      falls = λ _ z. never (sym j.not0 ∙ rw z refl);
      last = λ _. h;
    }

judged_sixth : (m : Line) (a : Settings) (x : ℤ) → is_ninth m.error ≡ false → left_on m ≤ 1 → Sixth m (judged (with_item m None) a x)
judged_sixth m a x n h =
    let k = with_item m None in
    judged_ind (Sixth m) m a x
    (record { setup = refl; on = n; detected = refl; falls = λ _ z. absurd (omega (arith, z)); last = λ _. h })
    (λ v _ _ j _. given_sixth m (with_foreign k (oldest_used m.foreign)) v (x -ℤ a.tare) refl n h j)
    (λ v _ _ j _. given_sixth m k v (x -ℤ a.tare) refl n h j)

weighed_sixth : (m : Line) (a : Settings) {w : Weighed} → is_ninth m.error ≡ false → Falls m.item m.setup.ta w → Sixth m (after_weighing m a w)
unfolding after_weighing
weighed_sixth m a n (still j h) =
    record { setup = refl; on = n; detected = refl; falls = λ i _. h i; last = λ z. never (sym z) }
weighed_sixth m a n (mean x h) = judged_sixth m a x n h

six_sixth : (m : Line) (t : Tick) → item_fit m.item m.setup ≡ true → is_weight t.gross ≡ true → is_ninth m.error ≡ false → Sixth m (step6 m t)
unfolding step6
six_sixth m t f g n = weighed_sixth m t.active n (weighing-falls m.item m.setup t.gross f g)

-- ---- a running tick

-- counted unless error 7 ended it
abbrev pub Ticked : Line → Effect → Type 0
Ticked l e = Timed l (bit (not (is_ninth e.line.error))) e

taken-times : (m k : Line) (e : Effect) → Sixth m e → in_hand e.line.item ≡ false → k.setup ≡ e.line.setup → k.error ≡ e.line.error → Ticked m (box_taken e k)
unfolding box_taken
taken-times m k e s h u r =
    record {
      falls = λ i z. never (sym h ∙ (s.falls i z).0);
      last = λ _ z _ _. rw (r, s.on) (s.last z);
      begins = λ _ _. new-left k.setup ∙ rw (u, s.setup) refl;
    }

seven-times : (m : Line) (e : Effect) (t : Tick) → Sixth m e → Ticked m (step7 e t)
unfolding given
seven-times m e t s =
    seven_ind (Ticked m) e t
    (λ _ _ _. record { falls = λ _ z. absurd (omega (arith, z)); last = λ _ _ z _. never (sym z); begins = λ _ z. never (sym z) })
    (λ h _ _. taken-times m e.line e s h refl refl)
    (λ h _ _ _. taken-times m (with_bench e.line (disarmed e.line.bench)) e s h refl refl)
    (record {
      falls = λ i z. rw s.on (s.falls i z).1;
      last = λ _ z _ _. rw s.on (s.last z);
      begins = λ d _. clash (sym s.detected ∙ d);
    })

-- seen from another line with the same item and setup
retimed : (l k : Line) (e : Effect) → k.item ≡ l.item → k.setup ≡ l.setup → Ticked k e → Ticked l e
retimed l k e i s w = record { falls = rw (← i, ← s) w.falls; last = rw (← i, ← s) w.last; begins = rw (← s) w.begins }

pub tick-times : (l : Line) (t : Tick) → item_fit l.item l.setup ≡ true → is_weight t.gross ≡ true → is_ninth l.error ≡ false → Ticked l (running_tick l t)
unfolding running_tick unless_ninth on_bench step4 step5
tick-times l t f g n =
    let m = step5 (step4 (on_bench l t)) t in
    if_ind (Ticked l) (ninth_signal l t) _ _
    (λ _. quiet-times l _ refl refl)
    (λ _. retimed l m (step7 (step6 m t) t) refl refl (seven-times m (step6 m t) t (six_sixth m t f g n)))
