-- Step 6, sample after sample, has the mean's outcome. Assumes nothing.
use mathlib.Core.Path.{◌≡◌, refl, sym, ap, ◌∙◌}
use mathlib.Core.Bool.{Bool, true, false}
use mathlib.Core.List.{List, [], ◌∷◌}
use Prim.Native.Nat.{ℕ, suc, ◌-◌, ◌*◌, ◌≤◌}
use native.Mathlib.Omega.{arith}
use lib.Dec.{leb}
use lib.IntN.{ℤ, pos, nat_abs, ◌+ℤ◌, ◌-ℤ◌, +ℤ_assoc, +ℤ_comm, +ℤ_idl}
use lib.ListN.{length}
use lib.Signed.{le_z}
use borrow.Author.Tests.{leb-true, le-leb, lt-ltb, eqb-true}
use Rattle.laws.specs.Choice.{when◌then◌else◌}
use Rattle.laws.proofs.Signed.{abs_add}
use Rattle.laws.proofs.Tests.{both, and_intro, by_cases}
use Rattle.lists.specs.Each.{all_of, any_pair, counted}
use Rattle.lists.specs.Sums.{sum_of}
use Rattle.weight.specs.Weight.{largest_weight, is_weight}
use Rattle.weight.specs.Mean.{rounded}
use Rattle.mask.specs.Bits.{marked}
use Rattle.settings.specs.Grade.{grade_of}
use Rattle.settings.specs.declared.Settings.{Settings}
use Rattle.queue.specs.Queue.{laid, waits_of, waiting, is_empty, is_full}
use Rattle.device.specs.Sorter.{full, sorter_off}
use Rattle.device.specs.declared.sorter.Sorter.{Sorter}
use Rattle.sorters.specs.Sorters.{blocks, any_blocks, all_off}
use Rattle.detector.specs.Foreign.{signals_of, carrying, carried, ended_in, due, no_signal}
use Rattle.detector.specs.declared.Foreign.{Foreign}
use Rattle.event.specs.Setup.{fresh_setup}
use Rattle.event.specs.declared.Setup.{Setup}
use Rattle.event.specs.declared.SorterSetup.{SorterSetup}
use Rattle.item.specs.Item.{ticked, item_fit, weighed}
use Rattle.item.specs.declared.Item.{Item}
use Rattle.item.specs.declared.Item.TheVariants.{None, Averaging}
use Rattle.item.specs.declared.Weighed.{Weighed}
use Rattle.item.specs.declared.Weighed.TheVariants.{Still, Mean}
use Rattle.line.specs.Line.{fresh_line, with_item, with_setup}
use Rattle.line.specs.Verdict.{given, or_crash, verdict_of, judged}
use Rattle.line.specs.Sample.{after_weighing, step6}
use Rattle.line.specs.declared.line.Line.{Line}
use Rattle.possible.specs.Outcome.{outcome_at, outcome_of}
use Rattle.possible.specs.Answer.{most_samples, count_fits, all_weights}
use Rattle.stepsix.specs.StepSix.{Averages, weighing, fed, SameAsStep6}

-- ---- no foreign signal, and all queues empty

record Clear (l : Line) : Type 0 where
  no_signal : carried l.foreign ≡ 0
  queues : all_of (λ (s : Sorter). is_empty s.queue) l.sorters ≡ true

none_of : (l : List ℕ) → length l ≡ 0 → l ≡ []
none_of [] e = refl
none_of (x ∷ l) e = absurd (omega (arith, e))

not_due : (f : Foreign) → carried f ≡ 0 → due f ≡ false
unfolding due ended_in carried counted
not_due f e = rw (none_of (signals_of f) e)

not_full : (s : Sorter) → is_empty s.queue ≡ true → full s ≡ false
unfolding full is_full is_empty
not_full s h = rw (eqb-true (waiting s.queue) 0 h)

none-blocks : (v : ℕ) (ss : List Sorter) (cs : List SorterSetup) → all_of (λ (s : Sorter). is_empty s.queue) ss ≡ true → any_pair (blocks v) ss cs ≡ false
unfolding all_of any_pair blocks
none-blocks v [] cs h = refl
none-blocks v (s ∷ ss) [] h = refl
none-blocks v (s ∷ ss) (c ∷ cs) h =
    let b = both (is_empty s.queue) (all_of (λ (s : Sorter). is_empty s.queue) ss) h in
    by_cases (marked c.sort v)
    (λ m. rw (m, not_full s b.0) (none-blocks v ss cs b.1))
    (λ m. rw m (none-blocks v ss cs b.1))

no_crash : (l : Line) (v : ℕ) → Clear l → or_crash l v ≡ v
unfolding or_crash any_blocks
no_crash l v c = rw (none-blocks v l.sorters l.setup.sorters c.queues)

-- so the outcome of a mean is its own
judged-is : (l : Line) (s : Settings) (m : ℤ) → Clear l → (judged l s m).outcome ≡ outcome_at s m
unfolding judged verdict_of given outcome_at
judged-is l s m c =
    by_cases (le_z m s.nearzero)
    (λ h. rw h)
    (λ h. rw (h, not_due l.foreign c.no_signal) (no_crash l (grade_of s (m -ℤ s.tare)) c))

-- ---- one sample

-- k ticks left of n, and a sum so far that so many ticks can have
record Left (n k : ℕ) (z : ℤ) : Type 0 where
  some : 1 ≤ k
  within : k ≤ n
  few : n ≤ most_samples
  size : nat_abs z ≤ largest_weight * (n - k)

module _ (c : Setup) (k : ℕ) (z x : ℤ) (g : Left c.ta k z) (w : is_weight x ≡ true) where
  fit : item_fit (Averaging k z) c ≡ true
  unfolding item_fit
  fit =
      and_intro
      (and_intro (and_intro (le-leb 1 k g.some) (le-leb k c.ta g.within)) (le-leb c.ta most_samples g.few))
      (le-leb (nat_abs z) (largest_weight * (c.ta - k)) g.size)

  weighed-is : weighed (Averaging k z) c x ≡ ticked (Averaging k z) c.ta x
  unfolding weighed
  weighed-is = rw (fit, w)

-- one sample fewer is left
left_less : (n k : ℕ) (z x : ℤ) → Left n (suc (suc k)) z → is_weight x ≡ true → Left n (suc k) (z +ℤ x)
left_less n k z x g w =
    let a = abs_add z x in
    let b = leb-true (nat_abs x) largest_weight w in
    let p = g.within in
    let q = g.size in
    record { some = omega arith; within = omega (arith, p); few = g.few; size = omega (arith, a, b, p, q) }

module _ (l : Line) (s : Settings) (x z : ℤ) (w : is_weight x ≡ true) where
  -- a sample that is not the last is added
  added : (k : ℕ) → l.item ≡ Averaging (suc (suc k)) z → Left l.setup.ta (suc (suc k)) z → (weighing l s x).line ≡ with_item l (Averaging (suc k) (z +ℤ x))
  unfolding step6 after_weighing ticked
  added k e g =
      ap (λ (i : Item). (after_weighing l s (weighed i l.setup x)).line) e
      ∙ ap (λ (m : Weighed). (after_weighing l s m).line) (weighed-is l.setup (suc (suc k)) z x g w)
      ∙ ap (λ (b : Bool). (after_weighing l s (when b then Still (Averaging (suc (suc k) - 1) (z +ℤ x)) else Mean (rounded (z +ℤ x) l.setup.ta))).line) (lt-ltb 1 (suc (suc k)) (omega arith))
      ∙ ap (λ (j : ℕ). with_item l (Averaging j (z +ℤ x))) (omega arith)

  -- the last one gives the mean
  last : l.item ≡ Averaging 1 z → Left l.setup.ta 1 z → Clear l → (weighing l s x).outcome ≡ outcome_at s (rounded (z +ℤ x) l.setup.ta)
  unfolding step6 after_weighing ticked
  last e g c =
      ap (λ (i : Item). (after_weighing l s (weighed i l.setup x)).outcome) e
      ∙ ap (λ (m : Weighed). (after_weighing l s m).outcome) (weighed-is l.setup 1 z x g w)
      ∙ judged-is (with_item l None) s (rounded (z +ℤ x) l.setup.ta) (record { no_signal = c.no_signal; queues = c.queues })

-- ---- from a sum so far

from : (n : ℕ) (s : Settings) (x : ℤ) (xs : List ℤ) (l : Line) (z : ℤ) → all_weights (x ∷ xs) ≡ true
    → l.item ≡ Averaging (length (x ∷ xs)) z → l.setup.ta ≡ n → Left n (length (x ∷ xs)) z → Clear l
    → (fed l s (x ∷ xs)).outcome ≡ outcome_at s (rounded (z +ℤ sum_of (x ∷ xs)) n)
unfolding all_of sum_of
from n s x [] l z w e t g c =
    let b = both (is_weight x) true w in
    last l s x z b.0 e (rw t g) c
    ∙ ap (λ (k : ℕ). outcome_at s (rounded (z +ℤ x) k)) t
    ∙ ap (λ (y : ℤ). outcome_at s (rounded (z +ℤ y) n)) (sym (+ℤ_idl x))
from n s x (y ∷ xs) l z w e t g c =
    let b = both (is_weight x) (all_weights (y ∷ xs)) w in
    let m = sum_of (y ∷ xs) in
    ap (λ (q : Line). (fed q s (y ∷ xs)).outcome) (added l s x z b.0 (length xs) e (rw t g))
    ∙ from n s y xs (with_item l (Averaging (suc (length xs)) (z +ℤ x))) (z +ℤ x) b.1 refl t (left_less n (length xs) z x g b.0) (record { no_signal = c.no_signal; queues = c.queues })
    ∙ ap (λ (q : ℤ). outcome_at s (rounded q n)) (+ℤ_assoc z x m ∙ ap (λ (q : ℤ). z +ℤ q) (+ℤ_comm x m))

same : (l : Line) (s : Settings) (xs : List ℤ) → count_fits (length xs) ≡ true → all_weights xs ≡ true → Averages l (length xs)
    → (fed l s xs).outcome ≡ outcome_of s xs
same l s [] h w a = absurd (let b = both (leb 1 0) (leb 0 most_samples) h in omega (arith, leb-true 1 0 b.0))
same l s (x ∷ xs) h w a =
    let n = length (x ∷ xs) in
    let b = both (leb 1 n) (leb n most_samples) h in
    let m = leb-true n most_samples b.1 in
    from n s x xs l (pos 0) w a.item a.ta (record { some = omega arith; within = omega arith; few = m; size = omega arith }) (record { no_signal = a.no_signal; queues = a.queues })
    ∙ ap (λ (q : ℤ). outcome_at s (rounded q n)) (+ℤ_idl (sum_of (x ∷ xs)))

-- ---- a line that averages n samples: the fresh one, with ta and its item

setup_with : ℕ → Setup
setup_with n = record fresh_setup { ta = n }

a-line : (n : ℕ) → (l : Line) × Averages l n
unfolding setup_with fresh_line no_signal carrying carried signals_of laid waits_of waiting is_empty all_off sorter_off all_of
a-line n = (with_item (with_setup fresh_line (setup_with n)) (Averaging n (pos 0)), record { item = refl; ta = refl; no_signal = refl; queues = refl })

pub as_step_6 : SameAsStep6
as_step_6 = record { same = same; some = a-line }
