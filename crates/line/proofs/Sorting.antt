-- What becomes of the sorters on a running tick: in step 4 each ticks, and the verdict given in step 6 or 7, if there is one,
-- enters their queues. Assumes nothing.
use mathlib.Core.Path.{◌≡◌, refl, sym, ◌∙◌}
use mathlib.Core.Bool.{true}
use Prim.Native.Nat.{ℕ}
use lib.IntN.{ℤ, pos}
use Rattle.laws.proofs.Tests.{if_ind, never}
use Rattle.mask.specs.Bits.{marked}
use Rattle.sorters.specs.Sorters.{all_ticked, all_entered}
use Rattle.sorters.proofs.Keeps.{none-entered}
use Rattle.detector.specs.Foreign.{oldest_used}
use Rattle.item.specs.Item.{in_hand}
use Rattle.item.specs.declared.Item.TheVariants.{None}
use Rattle.line.specs.Line.{with_foreign, with_item}
use Rattle.line.specs.Verdict.{sorted_for, stopped_for, given}
use Rattle.line.specs.Sample.{step4, step5, step6, on_bench, box_taken, step7, ninth_signal, unless_ninth, running_tick}
use Rattle.line.specs.declared.sample.Tick.{Tick}
use Rattle.line.specs.declared.line.Line.{Line}
use Rattle.line.specs.Effect.{Effect}
use Rattle.line.proofs.Ticks.{given-same, six_ind, seven_ind}

-- the sorters after an effect are those of m, with its outcome entered; m's setup stays
abbrev Entered : Line → Effect → Type 0
Entered m e = e.line.sorters ≡ all_entered e.outcome m.sorters m.setup.sorters

record Sorted (m : Line) (e : Effect) : Type 0 where
  entered : Entered m e
  setup : e.line.setup ≡ m.setup
  -- with an item still in hand there was no outcome
  held : in_hand e.line.item ≡ true → e.outcome ≡ 0

-- a verdict given
stopped-sorters : (l : Line) (v : ℕ) → (stopped_for l v).sorters ≡ l.sorters
unfolding stopped_for
stopped-sorters l v = if_ind (λ (k : Line). k.sorters ≡ l.sorters) (marked l.setup.stop v) _ _ (λ _. refl) (λ _. refl)

given-sorters : (k : Line) (d v : ℕ) (net : ℤ) → (given k d v net).line.sorters ≡ all_entered v k.sorters k.setup.sorters
unfolding given sorted_for
given-sorters k d v net = stopped-sorters (sorted_for k v) v

given-sorted : (m k : Line) (v : ℕ) (net : ℤ) → k.item ≡ None → k.sorters ≡ m.sorters → k.setup ≡ m.setup → Sorted m (given k 0 v net)
unfolding given
given-sorted m k v net i s p =
    record {
      entered = given-sorters k 0 v net ∙ rw (s, p) refl;
      setup = (given-same k 0 v net).setup ∙ p;
      held = λ h. never (rw ((given-same k 0 v net).item ∙ i) at h);
    }

six-sorted : (m : Line) (t : Tick) → Sorted m (step6 m t)
six-sorted m t =
    let k = with_item m None in
    six_ind (Sorted m) m t
    (λ _. record { entered = sym (none-entered 0 refl m.sorters m.setup.sorters); setup = refl; held = λ _. refl })
    (record { entered = sym (none-entered 9 refl m.sorters m.setup.sorters); setup = refl; held = λ p. never p })
    (λ v net _ _ _. given-sorted m (with_foreign k (oldest_used m.foreign)) v net refl refl refl)
    (λ v net _ _ _. given-sorted m k v net refl refl refl)

two-on-entered : (m : Line) (e : Effect) → Sorted m e → in_hand e.line.item ≡ true → Entered m (given (with_item e.line None) 1 7 (pos 0))
unfolding given
two-on-entered m e s h =
    let before : e.line.sorters ≡ m.sorters = rw (s.held h) at s.entered ∙ none-entered 0 refl m.sorters m.setup.sorters in
    given-sorters (with_item e.line None) 1 7 (pos 0) ∙ rw (before, s.setup) refl

seven-entered : (m : Line) (e : Effect) (t : Tick) → Sorted m e → Entered m (step7 e t)
unfolding box_taken
seven-entered m e t s =
    seven_ind (Entered m) e t (λ h _ _. two-on-entered m e s h) (λ _ _ _. s.entered) (λ _ _ _ _. s.entered) s.entered

pub tick-sorts : (k : Line) (t : Tick)
    → (running_tick k t).line.sorters
    ≡ all_entered (running_tick k t).outcome (all_ticked k.sorters k.setup.sorters) k.setup.sorters
unfolding running_tick unless_ninth on_bench step4 step5
tick-sorts k t =
    let m = step5 (step4 (on_bench k t)) t in
    if_ind (Entered m) (ninth_signal k t) _ _
    (λ _. sym (none-entered 0 refl m.sorters m.setup.sorters))
    (λ _. seven-entered m (step6 m t) t (six-sorted m t))
