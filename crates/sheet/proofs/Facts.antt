-- What a tally that is fit for a report tells. Assumes nothing.
use mathlib.Core.Path.{◌≡◌, refl}
use mathlib.Core.Bool.{Bool, true, false, ◌&&◌}
use Prim.Native.Nat.{ℕ}
use native.Mathlib.Omega.{arith}
use lib.Dec.{eqb}
use lib.IntN.{ℤ, ◌-ℤ◌}
use borrow.Author.Tests.{le-leb, eqb-false}
use Rattle.laws.specs.Choice.{when◌then◌else◌}
use Rattle.weight.specs.Weight.{is_weight}
use Rattle.weight.specs.Mean.{rounded, mean_of}
use Rattle.std.specs.Prelude.{Some, None}
use Rattle.laws.proofs.Tests.{both, by_cases}
use Rattle.weight.proofs.Nearest.{rounded-within}
use Rattle.settings.specs.Settings.{record_ranged, limits_ordered, record_fit}
use Rattle.settings.specs.declared.Settings.{Settings}
use Rattle.spread.specs.Figures.{report_fit}
use Rattle.spread.proofs.Tallies.{fit-facts}
use Rattle.tally.specs.declared.tally.Tally.{Tally}
use Rattle.sheet.specs.Steps.{weight_or_none, less_target}

-- the mean of weights is a weight
pub mean_within : (t : Tally) → report_fit t ≡ true → weight_or_none (mean_of t.sum t.n) ≡ true
mean_within t h =
    by_cases (eqb t.n 0) (λ z. rw z)
    (λ z. let b = (fit-facts t h).tally.bounds in
    rw z (le-leb _ _ (rounded-within t.sum t.n 999999 (omega (arith, eqb-false t.n 0 z)) (omega arith))))

pub deviation_is : (s target : ℤ) (n : ℕ) → less_target (mean_of s n) target ≡ (when eqb n 0 then None else Some (rounded s n -ℤ target))
deviation_is s target n = by_cases (eqb n 0) (λ z. rw z) (λ z. rw z)

-- a fit record's target is a weight
pub target_weight : (r : Settings) → record_fit r ≡ true → is_weight r.target ≡ true
unfolding record_ranged
target_weight r h = first (is_weight r.target) _ _ _ _ _ _ (both (record_ranged r) (limits_ordered r) h).0
  where
    first : (a b c d e f g : Bool) → a && b && c && d && e && f && g ≡ true → a ≡ true
    first true b c d e f g h = refl
    first false b c d e f g h = h
