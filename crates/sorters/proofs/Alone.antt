-- One sorter among others that are off and sort nothing. Each law is by induction over the number of sorters. Assumes nothing.
use mathlib.Core.Path.{◌≡◌, refl, ap, ◌∙◌}
use mathlib.Core.Bool.{Bool, true, false, ◌||◌, and-false, or-false}
use mathlib.Core.List.{List, [], ◌∷◌}
use Prim.Native.Nat.{ℕ, zero, suc, ◌+◌, ◌*◌, ◌-◌, ◌^◌, ◌<◌}
use native.Mathlib.Omega.{arith}
use native.Mathlib.Nat.{pow-succ', div-eq_of_lt}
use lib.Pow.{pow_pos}
use lib.Dec.{ltb}
use lib.ListN.{length, get_or, set, replicate}
use borrow.Author.Tests.{eqb-true}
use Rattle.laws.specs.Choice.{when◌then◌else◌, bit}
use Rattle.laws.proofs.Tests.{both}
use Rattle.lists.specs.Each.{any_of, all_of, any_pair, each_pair}
use Rattle.mask.specs.Bits.{marked}
use Rattle.queue.specs.Queue.{waits_of, laid, waiting, is_empty, queue_ticked, one_ends}
use Rattle.device.specs.Sorter.{sorting, sorter_ticked, sorter_off}
use Rattle.device.specs.declared.sorter.Sorter.{Sorter}
use Rattle.device.proofs.Keeps.{off_idle}
use Rattle.event.specs.Setup.{fresh_sorter, sorter_count, sorts_nothing}
use Rattle.event.specs.declared.SorterSetup.{SorterSetup}
use Rattle.sorters.specs.Sorters.{ticked_as, entered, blocks, on_bit, all_ticked, all_entered, any_blocks, any_sorting, on_bits, all_off}
use Rattle.sorters.specs.OneAlone.{OneAlone}

off : ℕ → List Sorter
off n = replicate n sorter_off

-- ---- a rule that leaves a sorter off where its mask is 0

module _ (f : Sorter → SorterSetup → Sorter) (idle : (c : SorterSetup) → sorts_nothing c ≡ true → f sorter_off c ≡ sorter_off) where
  off-each : (n : ℕ) (cs : List SorterSetup) → all_of sorts_nothing cs ≡ true → each_pair f (off n) cs ≡ off n
  unfolding each_pair all_of off
  off-each zero cs h = refl
  off-each (suc n) [] h = refl
  off-each (suc n) (c ∷ cs) h =
      let b = both (sorts_nothing c) (all_of sorts_nothing cs) h in
      rw (idle c b.0) (ap (λ (l : List Sorter). sorter_off ∷ l) (off-each n cs b.1))

  alone-each : (n k : ℕ) (s : Sorter) (cs : List SorterSetup) → length cs ≡ n → k < n → all_of sorts_nothing (set cs k fresh_sorter) ≡ true
      → each_pair f (set (off n) k s) cs ≡ set (off n) k (f s (get_or cs k fresh_sorter))
  unfolding each_pair all_of off
  alone-each zero k s cs n p h = absurd (omega (arith, p))
  alone-each (suc n) k s [] e p h = absurd (omega (arith, e))
  alone-each (suc n) zero s (c ∷ cs) e p h = ap (λ (l : List Sorter). f s c ∷ l) (off-each n cs (both true (all_of sorts_nothing cs) h).1)
  alone-each (suc n) (suc k) s (c ∷ cs) e p h =
      let b = both (sorts_nothing c) (all_of sorts_nothing (set cs k fresh_sorter)) h in
      rw (idle c b.0) (ap (λ (l : List Sorter). sorter_off ∷ l) (alone-each n k s cs (omega (arith, e)) (omega (arith, p)) b.1))

-- ---- a test that a sorter that is off does not pass where its mask is 0

module _ (p : Sorter → SorterSetup → Bool) (idle : (c : SorterSetup) → sorts_nothing c ≡ true → p sorter_off c ≡ false) where
  off_any : (n : ℕ) (cs : List SorterSetup) → all_of sorts_nothing cs ≡ true → any_pair p (off n) cs ≡ false
  unfolding any_pair all_of off
  off_any zero cs h = refl
  off_any (suc n) [] h = refl
  off_any (suc n) (c ∷ cs) h =
      let b = both (sorts_nothing c) (all_of sorts_nothing cs) h in
      rw (idle c b.0) (off_any n cs b.1)

  alone_any : (n k : ℕ) (s : Sorter) (cs : List SorterSetup) → length cs ≡ n → k < n → all_of sorts_nothing (set cs k fresh_sorter) ≡ true
      → any_pair p (set (off n) k s) cs ≡ p s (get_or cs k fresh_sorter)
  unfolding any_pair all_of off
  alone_any zero k s cs n q h = absurd (omega (arith, q))
  alone_any (suc n) k s [] e q h = absurd (omega (arith, e))
  alone_any (suc n) zero s (c ∷ cs) e q h = ap (◌||◌ (p s c)) (off_any n cs (both true (all_of sorts_nothing cs) h).1) ∙ or-false (p s c)
  alone_any (suc n) (suc k) s (c ∷ cs) e q h =
      let b = both (sorts_nothing c) (all_of sorts_nothing (set cs k fresh_sorter)) h in
      rw (idle c b.0) (alone_any n k s cs (omega (arith, e)) (omega (arith, q)) b.1)

-- ---- something queued or on, and the bits

off-quiet : (n : ℕ) → any_of sorting (off n) ≡ false
unfolding any_of off
off-quiet zero = refl
off-quiet (suc n) = rw off_idle (off-quiet n)

alone-sorting : (n k : ℕ) (s : Sorter) → k < n → any_of sorting (set (off n) k s) ≡ sorting s
unfolding any_of off
alone-sorting zero k s p = absurd (omega (arith, p))
alone-sorting (suc n) zero s p = ap (◌||◌ (sorting s)) (off-quiet n) ∙ or-false (sorting s)
alone-sorting (suc n) (suc k) s p = rw off_idle (alone-sorting n k s (omega (arith, p)))

off_dark : (n : ℕ) → on_bits (off n) ≡ 0
unfolding on_bits on_bit off sorter_off
off_dark zero = refl
off_dark (suc n) = rw (off_dark n) refl

twice : (b : Bool) (k : ℕ) → 0 + 2 * (when b then 2 ^ k else 0) ≡ (when b then 2 ^ suc k else 0)
twice true k = omega (arith, pow-succ' 2 k)
twice false k = refl

one : (b : Bool) → bit b + 2 * 0 ≡ (when b then 2 ^ 0 else 0)
one true = refl
one false = refl

alone-bits : (n k : ℕ) (s : Sorter) → k < n → on_bits (set (off n) k s) ≡ (when ltb 0 s.on then 2 ^ k else 0)
unfolding on_bits on_bit off sorter_off
alone-bits zero k s p = absurd (omega (arith, p))
alone-bits (suc n) zero s p = rw (off_dark n) (one (ltb 0 s.on))
alone-bits (suc n) (suc k) s p = rw (alone-bits n k s (omega (arith, p))) (twice (ltb 0 s.on) k)

-- ---- with the rules of a sorter

no_bit : (v : ℕ) (c : SorterSetup) → sorts_nothing c ≡ true → marked c.sort v ≡ false
unfolding marked
no_bit v c h = rw (eqb-true c.sort 0 h, div-eq_of_lt (pow_pos (8 - v)), and-false) refl

idle_ticks : (c : SorterSetup) → sorts_nothing c ≡ true → ticked_as sorter_off c ≡ sorter_off
unfolding ticked_as sorter_ticked sorter_off queue_ticked is_empty waiting waits_of laid one_ends any_of
idle_ticks c h = refl

idle_enters : (v : ℕ) (c : SorterSetup) → sorts_nothing c ≡ true → entered v sorter_off c ≡ sorter_off
unfolding entered
idle_enters v c h = rw (no_bit v c h) refl

idle_blocks : (v : ℕ) (c : SorterSetup) → sorts_nothing c ≡ true → blocks v sorter_off c ≡ false
unfolding blocks
idle_blocks v c h = rw (no_bit v c h) refl

pub one_of_six : OneAlone
unfolding all_ticked all_entered any_blocks any_sorting all_off ticked_as entered blocks off
one_of_six =
    record {
      ticks = λ s cs k o. alone-each ticked_as idle_ticks sorter_count k s cs o.six o.place o.others;
      queues = λ v s cs k o. alone-each (entered v) (idle_enters v) sorter_count k s cs o.six o.place o.others;
      crashes = λ v s cs k o. alone_any (blocks v) (idle_blocks v) sorter_count k s cs o.six o.place o.others;
      sorts = λ s k p. alone-sorting sorter_count k s p;
      shows = λ s k p. alone-bits sorter_count k s p;
    }
