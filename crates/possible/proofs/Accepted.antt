-- What an accepted call knows; and that the mask of the least and the largest mean has exactly the outcomes that can be. Assumes nothing.
use mathlib.Core.Path.{◌≡◌, sym, ap, ap₂, ◌∙◌}
use mathlib.Core.Bool.{true}
use mathlib.Core.List.{List}
use Prim.Native.Nat.{ℕ, ◌≤◌, ◌<◌}
use native.Mathlib.Omega.{arith}
use lib.IntN.{ℤ}
use lib.ListN.{length}
use mir.Syntax.{w64}
use mir.Val.{SFits, to_z, of_z}
use mir.Facts.{to_z-of_z}
use borrow.Author.Tests.{le-leb, leb-true}
use Rattle.weight.specs.Weight.{largest_weight, is_weight}
use Rattle.weight.specs.Mean.{rounded}
use Rattle.weight.proofs.Nearest.{rounded-within}
use Rattle.mask.specs.Bits.{bit_set}
use Rattle.std.specs.Prelude.{None}
use Rattle.settings.specs.Settings.{record_fit}
use Rattle.settings.specs.declared.Settings.{Settings}
use Rattle.lists.specs.Sums.{sum_of}
use Rattle.possible.specs.Outcome.{outcome_at}
use Rattle.possible.specs.Answer.{most_samples, widest, all_weights, refusal_of, CanBe, IsSet}
use Rattle.possible.specs.Bounds.{sum_at, outcomes_between}
use Rattle.possible.proofs.Sums.{near_length, low_sum, high_sum, sums_rise, sum_in, is_sum, sum-size}
use Rattle.possible.proofs.Means.{rounded_rises, is_mean}
use Rattle.possible.proofs.Grades.{ordered, of_bit, to_bit}
use lib.Signed.{◌≤ℤ◌}

-- what an accepted call knows
pub record Accepted (xs : List ℤ) (e : ℕ) (s : Settings) : Type 0 where
  pub some : 0 < length xs
  pub many : length xs ≤ most_samples
  pub weights : all_weights xs ≡ true
  pub few : e ≤ widest
  pub fit : record_fit s ≡ true

pub accepted : (xs : List ℤ) (e : ℕ) (s : Settings) → refusal_of xs e s ≡ None → Accepted xs e s
unfolding refusal_of
accepted xs e s h =
    record {
      some = grind (arith, leb-true);
      many = grind (arith, leb-true);
      weights = grind arith;
      few = grind (arith, leb-true);
      fit = grind arith;
    }

module _ (xs : List ℤ) (e : ℕ) (s : Settings) (a : Accepted xs e s) where
  abbrev n : ℕ
  n = length xs

  -- the least and the largest mean, and the mask of the means between
  abbrev pub low : ℤ
  low = rounded (low_sum e xs) n

  abbrev pub high : ℤ
  high = rounded (high_sum e xs) n

  abbrev pub mask : ℕ
  mask = outcomes_between s low high

  pub mean-weight : (d : ℤ) → is_weight (rounded (sum_at d xs) n) ≡ true
  mean-weight d = le-leb _ _ (rounded-within (sum_at d xs) n largest_weight a.some (sum-size d xs))

  -- the code's mean of the samples moved by d
  pub mean_is : (d sum mean : ℤ) → SFits w64 sum → SFits w64 mean → sum ≡ sum_at d xs → mean ≡ rounded (to_z w64 (of_z w64 sum)) n → to_z w64 (of_z w64 mean) ≡ rounded (sum_at d xs) n
  mean_is d sum mean f g p q = to_z-of_z g ∙ q ∙ rw (to_z-of_z f, p)

  rise : low ≤ℤ high
  rise = rounded_rises _ _ n a.some (sums_rise e xs a.weights)

  pub is_set : IsSet s e xs mask
  is_set k = (there, back)
    where
      there : bit_set mask k ≡ true → CanBe s e xs k
      there h =
          let f = of_bit s low high (ordered s a.fit) rise k h in
          let z = is_mean (low_sum e xs) (high_sum e xs) f.0 n a.some (sums_rise e xs a.weights) f.1 f.2 in
          let y = is_sum e xs a.weights z.0 z.1 z.2 in
          record { samples = y.0; near = y.1; gives = ap (outcome_at s) (ap₂ rounded y.2 (near_length y.1) ∙ z.3) ∙ f.3 }

      back : CanBe s e xs k → bit_set mask k ≡ true
      back c =
          let b = sum_in e c.near in
          let m = rounded (sum_of c.samples) n in
          let g = to_bit s low high (ordered s a.fit) rise m (rounded_rises _ _ n a.some b.0) (rounded_rises _ _ n a.some b.1) in
          let e : outcome_at s m ≡ k = ap (λ (l : ℕ). outcome_at s (rounded (sum_of c.samples) l)) (sym (near_length c.near)) ∙ c.gives in
          rw e at g
