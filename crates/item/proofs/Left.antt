-- The running ticks that an item has left: weighing takes one of them, and gives the mean on the last. Assumes nothing.
use mathlib.Core.Path.{◌≡◌, refl}
use mathlib.Core.Bool.{true, ◌&&◌}
use Prim.Native.Nat.{ℕ, ◌+◌, ◌-◌, ◌*◌, ◌≤◌}
use native.Mathlib.Omega.{arith}
use lib.Dec.{leb, ltb, eqb}
use lib.IntN.{ℤ, pos, nat_abs, ◌+ℤ◌}
use borrow.Author.Tests.{leb-true, ltb-true, ltb-false, eqb-true}
use Rattle.laws.specs.Choice.{within}
use Rattle.weight.specs.Weight.{largest_weight, is_weight}
use Rattle.time.specs.Time.{is_time}
use Rattle.weight.specs.Mean.{rounded}
use Rattle.laws.proofs.Tests.{both, if_ind, never}
use Rattle.event.specs.declared.Setup.{Setup}
use Rattle.item.specs.Item.{in_hand, item_fit, new_item, ticked, weighed}
use Rattle.item.specs.declared.Item.{Item}
use Rattle.item.specs.declared.Item.TheVariants.{None, Waiting, Averaging}
use Rattle.item.specs.declared.Weighed.{Weighed}
use Rattle.item.specs.declared.Weighed.TheVariants.{Still, Mean}

-- waiting and averaging
abbrev pub left : Item → ℕ → ℕ
left None ta = 0
left (Waiting k) ta = k + ta
left (Averaging k sum) ta = k

pub new-left : (s : Setup) → left (new_item s) s.ta ≡ s.tw + s.ta
unfolding new_item
new-left s =
    if_ind (λ (i : Item). left i s.ta ≡ s.tw + s.ta) (eqb s.tw 0) _ _ (λ z. omega (arith, eqb-true s.tw 0 z)) (λ _. refl)

pub some_left : (i : Item) (s : Setup) → item_fit i s ≡ true → in_hand i ≡ true → 1 ≤ left i s.ta
unfolding item_fit
some_left None s f h = never h
some_left (Waiting k) s f h = omega (arith, leb-true 1 k (both (leb 1 k) (leb k s.tw) f).0)
some_left (Averaging k sum) s f h =
    let a = both (within 1 s.ta k && is_time s.ta) (leb (nat_abs sum) (largest_weight * (s.ta - k))) f in
    let t = both (within 1 s.ta k) (is_time s.ta) a.0 in
    leb-true 1 k (both (leb 1 k) (leb k s.ta) t.0).0

-- an item in hand stays so with one tick less, or has its mean on the last
pub data Falls (i : Item) (ta : ℕ) : Weighed → Type 0 where
  still : (j : Item) → (in_hand i ≡ true → (in_hand j ≡ true) × (left j ta + 1 ≡ left i ta)) → Falls i ta (Still j)
  mean : (m : ℤ) → left i ta ≤ 1 → Falls i ta (Mean m)

falls : (i : Item) (s : Setup) (gross : ℤ) → item_fit i s ≡ true → Falls i s.ta (ticked i s.ta gross)
unfolding ticked item_fit
falls None s gross f = still None (λ h. never h)
falls (Waiting k) s gross f =
    let low = leb-true 1 k (both (leb 1 k) (leb k s.tw) f).0 in
    if_ind (λ (j : Item). Falls (Waiting k) s.ta (Still j)) (ltb 1 k) _ _
    (λ h. still (Waiting (k - 1)) (λ _. (refl, omega (arith, ltb-true 1 k h))))
    (λ h. still (Averaging s.ta (pos 0)) (λ _. (refl, omega (arith, low, ltb-false 1 k h))))
falls (Averaging k sum) s gross f =
    if_ind (Falls (Averaging k sum) s.ta) (ltb 1 k) _ _
    (λ h. still (Averaging (k - 1) (sum +ℤ gross)) (λ _. (refl, omega (arith, ltb-true 1 k h))))
    (λ h. mean (rounded (sum +ℤ gross) s.ta) (omega (arith, ltb-false 1 k h)))

pub weighing-falls : (i : Item) (s : Setup) (gross : ℤ) → item_fit i s ≡ true → is_weight gross ≡ true → Falls i s.ta (weighed i s gross)
unfolding weighed
weighing-falls i s gross f g = rw (f, g) (falls i s gross f)
