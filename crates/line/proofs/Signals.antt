-- What becomes of the foreign signals on a running tick: step 5 takes one, step 6 uses one up where its verdict is foreign or
-- the crash of one, and nothing else ends one. Assumes nothing.
use mathlib.Core.Path.{◌≡◌, refl, sym, ◌∙◌}
use mathlib.Core.Bool.{true, ◌&&◌, not}
use Prim.Native.Nat.{ℕ, ◌+◌}
use native.Mathlib.Omega.{arith}
use lib.IntN.{ℤ, pos}
use Rattle.laws.specs.Choice.{bit}
use Rattle.laws.proofs.Tests.{if_ind, never}
use Rattle.detector.specs.Foreign.{carried, eight_carried, due, foreign_ticked, oldest_used}
use Rattle.detector.proofs.Signals.{ticked-carried, used_carried}
use Rattle.time.specs.Time.{is_time}
use Rattle.item.specs.Item.{in_hand}
use Rattle.item.specs.declared.Item.TheVariants.{None}
use Rattle.line.specs.Line.{with_foreign, with_item}
use Rattle.line.specs.Verdict.{given}
use Rattle.line.specs.Sample.{step4, step5, step6, on_bench, box_taken, step7, ninth_signal, unless_ninth, running_tick}
use Rattle.line.specs.declared.sample.Tick.{Tick}
use Rattle.line.specs.declared.line.Line.{Line}
use Rattle.line.specs.Effect.{Effect}
use Rattle.line.proofs.Ticks.{used_of, given-same, six_ind, seven_ind}

-- ---- step 6

-- what is carried before is carried after and used up
abbrev Counts : Line → Effect → Type 0
Counts m e = carried m.foreign ≡ carried e.line.foreign + used_of (due m.foreign) e.outcome

record Uses (m : Line) (e : Effect) : Type 0 where
  count : Counts m e
  -- with an item still in hand there was no outcome
  held : in_hand e.line.item ≡ true → e.outcome ≡ 0

given_uses : (m k : Line) (v : ℕ) (net : ℤ) → k.item ≡ None → carried m.foreign ≡ carried k.foreign + used_of (due m.foreign) v → Uses m (given k 0 v net)
unfolding given
given_uses m k v net i h =
    let s = given-same k 0 v net in
    record { count = rw s.foreign h; held = λ p. never (rw (s.item ∙ i) at p) }

six_uses : (m : Line) (t : Tick) → Uses m (step6 m t)
six_uses m t =
    let k = with_item m None in
    six_ind (Uses m) m t
    (λ _. record { count = omega arith; held = λ _. refl })
    (record { count = omega arith; held = λ p. never p })
    (λ v net d _ u. given_uses m (with_foreign k (oldest_used m.foreign)) v net refl (rw d (omega (arith, used_carried m.foreign d, u))))
    (λ v net d _ u. given_uses m k v net refl (rw d (omega (arith, u))))

-- ---- step 7 uses up none

two-on-counts : (m : Line) (e : Effect) → Uses m e → in_hand e.line.item ≡ true → Counts m (given (with_item e.line None) 1 7 (pos 0))
unfolding given
two-on-counts m e u h =
    let c : carried m.foreign ≡ carried e.line.foreign + used_of (due m.foreign) 0 = rw (u.held h) at u.count in
    rw (given-same (with_item e.line None) 1 7 (pos 0)).foreign c

seven-counts : (m : Line) (e : Effect) (t : Tick) → Uses m e → Counts m (step7 e t)
unfolding box_taken
seven-counts m e t u =
    seven_ind (Counts m) e t (λ h _ _. two-on-counts m e u h) (λ _ _ _. u.count) (λ _ _ _ _. u.count) u.count

-- ---- a running tick: one is taken in step 5, one may be used up in step 6

pub tick-counts : (k : Line) (t : Tick) → is_time k.setup.tf ≡ true
    → carried k.foreign + bit (t.rises && not (eight_carried k.foreign))
    ≡ carried (running_tick k t).line.foreign + used_of (due (foreign_ticked k.foreign t.rises k.setup.tf)) (running_tick k t).outcome
unfolding running_tick unless_ninth on_bench step4 step5
tick-counts k t time =
    let m = step5 (step4 (on_bench k t)) t in
    sym (ticked-carried k.foreign t.rises k.setup.tf time)
    ∙ if_ind (Counts m) (ninth_signal k t) _ _ (λ _. omega arith) (λ _. seven-counts m (step6 m t) t (six_uses m t))
