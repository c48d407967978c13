-- What it tells that neither memory has a wrong length, and back. Assumes nothing.
use mathlib.Core.Path.{◌≡◌}
use mathlib.Core.Bool.{false, not}
use mathlib.Core.List.{List}
use Prim.Native.Nat.{ℕ}
use lib.Dec.{eqb}
use lib.IntN.{ℤ}
use lib.ListN.{length}
use borrow.Author.Tests.{eqb-true, eq-eqb, not-false}
use Rattle.laws.proofs.Tests.{neither}
use Rattle.settings.specs.Settings.{settings_length}
use Rattle.tallies.specs.Memory.{tallies_length}
use Rattle.refusal.specs.Rows.{lengths_wrong}

pub lengths_right : (count : ℕ) (ts : List ℤ) → lengths_wrong count ts ≡ false → (count ≡ settings_length) × (length ts ≡ tallies_length)
unfolding lengths_wrong
lengths_right count ts h =
    let n = neither (not (eqb count settings_length)) (not (eqb (length ts) tallies_length)) h in
    (eqb-true count settings_length (not-false _ n.0), eqb-true (length ts) tallies_length (not-false _ n.1))

pub right_lengths : (count : ℕ) (ts : List ℤ) → count ≡ settings_length → length ts ≡ tallies_length → lengths_wrong count ts ≡ false
unfolding lengths_wrong
right_lengths count ts h k = rw (eq-eqb count settings_length h, eq-eqb (length ts) tallies_length k)
