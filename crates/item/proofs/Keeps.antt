-- The item in hand: it stays fit tick by tick, and its mean is a weight. Assumes nothing.
use mathlib.Core.Path.{◌≡◌, refl}
use mathlib.Core.Bool.{true, ◌&&◌}
use Prim.Native.Nat.{ℕ, ◌+◌, ◌-◌, ◌*◌, ◌≤◌, ◌<◌}
use native.Mathlib.Omega.{arith}
use lib.Dec.{leb, ltb, eqb}
use lib.IntN.{ℤ, pos, nat_abs, ◌+ℤ◌}
use borrow.Author.Tests.{leb-true, le-leb, ltb-true, ltb-false, eqb-false}
use Rattle.laws.specs.Choice.{within}
use Rattle.weight.specs.Weight.{largest_weight, is_weight}
use Rattle.time.specs.Time.{longest, is_time}
use Rattle.weight.specs.Mean.{rounded}
use Rattle.laws.proofs.Tests.{both, and_intro, if_ind}
use Rattle.laws.proofs.Signed.{abs_add}
use Rattle.weight.proofs.Nearest.{rounded-within}
use Rattle.event.specs.declared.Setup.{Setup}
use Rattle.event.proofs.Facts.{Timers}
use Rattle.item.specs.Item.{in_hand, item_fit, new_item, ticked, weighed}
use Rattle.item.specs.declared.Item.{Item}
use Rattle.item.specs.declared.Item.TheVariants.{None, Waiting, Averaging}
use Rattle.item.specs.declared.Weighed.{Weighed}
use Rattle.item.specs.declared.Weighed.TheVariants.{Still, Mean}

within-is : (low high n : ℕ) → low ≤ n → n ≤ high → within low high n ≡ true
within-is low high n a b = and_intro (le-leb low n a) (le-leb n high b)

-- an averaging item at its start
start-fit : (s : Setup) → Timers s → item_fit (Averaging s.ta (pos 0)) s ≡ true
unfolding item_fit
start-fit s t =
    and_intro (and_intro (within-is 1 s.ta s.ta t.some (omega arith)) (le-leb s.ta longest t.ta))
    (le-leb 0 (largest_weight * (s.ta - s.ta)) (omega arith))

pub new-fit : (s : Setup) → Timers s → item_fit (new_item s) s ≡ true
unfolding new_item item_fit
new-fit s t =
    if_ind (λ (i : Item). item_fit i s ≡ true) (eqb s.tw 0) _ _
    (λ _. start-fit s t)
    (λ h. within-is 1 s.tw s.tw (omega (arith, eqb-false s.tw 0 h)) (omega arith))

pub new-in_hand : (s : Setup) → in_hand (new_item s) ≡ true
unfolding new_item
new-in_hand s = if_ind (λ (i : Item). in_hand i ≡ true) (eqb s.tw 0) _ _ (λ _. refl) (λ _. refl)

-- what weighing makes of an item: one that is fit and in hand as before, or of one in hand a mean that is a weight
pub data Weighs (i : Item) (s : Setup) : Weighed → Type 0 where
  still : (j : Item) → item_fit j s ≡ true → in_hand j ≡ in_hand i → Weighs i s (Still j)
  mean : (m : ℤ) → in_hand i ≡ true → is_weight m ≡ true → Weighs i s (Mean m)

-- the ticks left and the sum of an averaging item, with one gross more
pub record Averages (k : ℕ) (sum gross : ℤ) (ta : ℕ) : Type 0 where
  pub some : 1 ≤ k
  pub most : k ≤ ta
  pub time : ta ≤ longest
  pub sizes : nat_abs sum + nat_abs gross ≤ largest_weight * (ta - k) + largest_weight
  pub total : nat_abs (sum +ℤ gross) ≤ largest_weight * (ta - k) + largest_weight

pub averages : (k : ℕ) (sum gross : ℤ) (s : Setup) → item_fit (Averaging k sum) s ≡ true → is_weight gross ≡ true → Averages k sum gross s.ta
unfolding item_fit
averages k sum gross s h g =
    let a = both (within 1 s.ta k && is_time s.ta) (leb (nat_abs sum) (largest_weight * (s.ta - k))) h in
    let t = both (within 1 s.ta k) (is_time s.ta) a.0 in
    let b = both (leb 1 k) (leb k s.ta) t.0 in
    record {
      some = leb-true _ _ b.0;
      most = leb-true _ _ b.1;
      time = leb-true _ _ t.1;
      sizes = omega (arith, leb-true (nat_abs sum) (largest_weight * (s.ta - k)) a.1, leb-true (nat_abs gross) largest_weight g);
      total = omega (arith, abs_add sum gross, leb-true (nat_abs sum) (largest_weight * (s.ta - k)) a.1, leb-true (nat_abs gross) largest_weight g);
    }

averaging_on : (k : ℕ) (sum gross : ℤ) (s : Setup) → Averages k sum gross s.ta → 1 < k → item_fit (Averaging (k - 1) (sum +ℤ gross)) s ≡ true
unfolding item_fit
averaging_on k sum gross s a h =
    and_intro (and_intro (within-is 1 s.ta (k - 1) (omega arith) (omega (arith, a.most))) (le-leb s.ta longest a.time))
    (le-leb (nat_abs (sum +ℤ gross)) _ (omega (arith, a.total, a.most)))

mean-weight : (k : ℕ) (sum gross : ℤ) (ta : ℕ) → Averages k sum gross ta → k ≤ 1 → is_weight (rounded (sum +ℤ gross) ta) ≡ true
mean-weight k sum gross ta a h =
    le-leb _ _ (rounded-within (sum +ℤ gross) ta largest_weight (omega (arith, a.some, a.most)) (omega (arith, a.total, a.some, a.most)))

ticks : (i : Item) (s : Setup) (gross : ℤ) → Timers s → item_fit i s ≡ true → is_weight gross ≡ true → Weighs i s (ticked i s.ta gross)
unfolding ticked item_fit
ticks None s gross t f g = still None refl refl
ticks (Waiting k) s gross t f g =
    let b = both (leb 1 k) (leb k s.tw) f in
    if_ind (λ (j : Item). Weighs (Waiting k) s (Still j)) (ltb 1 k) _ _
    (λ h. still (Waiting (k - 1)) (within-is 1 s.tw (k - 1) (omega (arith, ltb-true 1 k h)) (omega (arith, leb-true k s.tw b.1))) refl)
    (λ _. still (Averaging s.ta (pos 0)) (start-fit s t) refl)
ticks (Averaging k sum) s gross t f g =
    let a = averages k sum gross s f g in
    if_ind (Weighs (Averaging k sum) s) (ltb 1 k) _ _
    (λ h. still (Averaging (k - 1) (sum +ℤ gross)) (averaging_on k sum gross s a (ltb-true 1 k h)) refl)
    (λ h. mean (rounded (sum +ℤ gross) s.ta) refl (mean-weight k sum gross s.ta a (ltb-false 1 k h)))

pub weighing : (i : Item) (s : Setup) (gross : ℤ) → Timers s → item_fit i s ≡ true → is_weight gross ≡ true → Weighs i s (weighed i s gross)
unfolding weighed
weighing i s gross t f g = rw (f, g) (ticks i s gross t f g)

pub mean_weighs : {i : Item} {s : Setup} {w : Weighed} (m : ℤ) → Weighs i s w → w ≡ Mean m → is_weight m ≡ true
mean_weighs m (still j f h) e = let z : ◌≡◌ {A = ℕ} 0 1 = cc in absurd (omega arith)
mean_weighs m (mean n h w) e = let same : n ≡ m = cc in rw (← same) w
