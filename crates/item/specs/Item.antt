-- 01's item: how it begins, what a running tick makes of it, and when it is fit.
use Rattle.std.specs.Prelude.{ℕ, ◌-◌, ◌*◌, Bool, true, false, ◌&&◌, eqb, leb, ltb, ℤ, pos, nat_abs, ◌+ℤ◌}
use Rattle.laws.specs.Choice.{when◌then◌else◌, within}
use Rattle.weight.specs.Mean.{rounded}
use Rattle.weight.specs.Weight.{largest_weight, is_weight}
use Rattle.time.specs.Time.{is_time}
use Rattle.event.specs.declared.Setup.{Setup}
use Rattle.item.specs.declared.Item.{Item}
use Rattle.item.specs.declared.Item.TheVariants.{None, Waiting, Averaging}
use Rattle.item.specs.declared.Weighed.{Weighed}
use Rattle.item.specs.declared.Weighed.TheVariants.{Still, Mean}

-- an item is in hand
abbrev pub in_hand : Item → Bool
in_hand None = false
in_hand (Waiting k) = true
in_hand (Averaging k s) = true

-- an item as it is detected
unfoldable pub new_item : Setup → Item
new_item s = when eqb s.tw 0 then Averaging s.ta (pos 0) else Waiting s.tw

-- "An item detected at running tick d is averaged over ticks d+tw+1 to d+tw+ta. On the last, m = sum / ta"
unfoldable pub ticked : Item → ℕ → ℤ → Weighed
ticked None ta gross = Still None
ticked (Waiting k) ta gross = Still (when ltb 1 k then Waiting (k - 1) else Averaging ta (pos 0))
ticked (Averaging k sum) ta gross =
    when ltb 1 k then Still (Averaging (k - 1) (sum +ℤ gross)) else Mean (rounded (sum +ℤ gross) ta)

-- "an item's ticks left from 1 to its tw or ta, |sum| ≤ 999,999 × ticks averaged"; ta itself is a time
unfoldable pub item_fit : Item → Setup → Bool
item_fit None s = true
item_fit (Waiting k) s = within 1 s.tw k
item_fit (Averaging k sum) s = within 1 s.ta k && is_time s.ta && leb (nat_abs sum) (largest_weight * (s.ta - k))

-- a running tick: on a fit line the item is fit and the gross a weight; of any other nothing is left
unfoldable pub weighed : Item → Setup → ℤ → Weighed
weighed i s gross = when item_fit i s && is_weight gross then ticked i s.ta gross else Still None
