-- The bits of the sorters that are on; fitness of six from fitness of one. Assumes nothing.
use mathlib.Core.Path.{◌≡◌, refl}
use mathlib.Core.Bool.{Bool, true, false}
use mathlib.Core.List.{List, [], ◌∷◌}
use Prim.Native.Nat.{ℕ, zero, suc, ◌^◌, ◌≤◌, ◌<◌}
use native.Mathlib.Omega.{arith}
use native.Mathlib.Nat.{pow-succ'}
use lib.Pow.{pow_pos}
use lib.Dec.{ltb}
use lib.ListN.{length}
use Rattle.laws.specs.Choice.{bit, within}
use Rattle.laws.proofs.Tests.{if_ind}
use Rattle.lists.specs.Each.{any_of, all_of}
use Rattle.lists.proofs.Pairs.{pairs_keep, pairs-same}
use Rattle.mask.specs.Bits.{marked}
use Rattle.device.specs.Sorter.{sorter_fit}
use Rattle.device.specs.declared.sorter.Sorter.{Sorter}
use Rattle.device.proofs.Keeps.{ticked-fit, queued-fit, off-fit, off_idle}
use Rattle.event.specs.Setup.{sorter_ranged}
use Rattle.event.specs.declared.SorterSetup.{SorterSetup}
use Rattle.event.proofs.Facts.{sorter-times}
use Rattle.sorters.specs.Sorters.{ticked_as, entered, on_bit, on_bits, all_ticked, all_entered, all_off, any_sorting, all_fit}

-- ---- the bits

small : (b : Bool) → bit b ≤ 1
small true = omega arith
small false = omega arith

bit_le : (s : Sorter) → on_bit s ≤ 1
unfolding on_bit
bit_le s = small (ltb 0 s.on)

-- the bits of at most k sorters are below 2^k
pub bits_below : (ss : List Sorter) (k : ℕ) → length ss ≤ k → on_bits ss < 2 ^ k
unfolding on_bits
bits_below [] k h = pow_pos k
bits_below (s ∷ ss) zero h = absurd (omega arith)
bits_below (s ∷ ss) (suc k) h = rw (pow-succ' 2 k) (omega (arith, bit_le s, bits_below ss k (omega arith)))

-- ---- fitness: one sorter's law, at each of six

pub all_ticked-fit :
    (ss : List Sorter) (cs : List SorterSetup) → all_fit ss ≡ true → all_of sorter_ranged cs ≡ true → all_fit (all_ticked ss cs) ≡ true
unfolding all_fit all_ticked ticked_as
all_ticked-fit =
    pairs_keep ticked_as sorter_fit sorter_ranged (λ s c h k. ticked-fit s c.to (sorter-times c k).to h)

pub all_entered-fit :
    (v : ℕ) (ss : List Sorter) (cs : List SorterSetup) → all_fit ss ≡ true → all_of sorter_ranged cs ≡ true → all_fit (all_entered v ss cs) ≡ true
unfolding all_fit all_entered entered
all_entered-fit v =
    pairs_keep (entered v) sorter_fit sorter_ranged
    (λ s c h k. if_ind (λ (t : Sorter). sorter_fit t ≡ true) (marked c.sort v) _ _ (λ _. queued-fit s c.ts (sorter-times c k).ts h) (λ _. h))

pub all_off-fit : all_fit all_off ≡ true
unfolding all_fit all_off all_of
all_off-fit = rw off-fit

pub all_off_idle : any_sorting all_off ≡ false
unfolding any_sorting all_off any_of
all_off_idle = rw off_idle

-- ---- an outcome that is no verdict enters no queue

not_entered : (v : ℕ) → within 1 8 v ≡ false → (s : Sorter) (c : SorterSetup) → entered v s c ≡ s
unfolding entered marked
not_entered v h s c = rw h refl

pub none-entered :
    (v : ℕ) → within 1 8 v ≡ false → (ss : List Sorter) (cs : List SorterSetup) → all_entered v ss cs ≡ ss
unfolding all_entered
none-entered v h = pairs-same (entered v) (not_entered v h)
