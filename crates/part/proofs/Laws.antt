-- What a fit part tells, and a part with one more verdict stays fit. Assumes nothing.
use mathlib.Core.Path.{◌≡◌, refl, ◌∙◌}
use mathlib.Core.Bool.{true, ◌&&◌}
use mathlib.Core.List.{List}
use Prim.Native.Nat.{ℕ, ◌≤◌}
use native.Mathlib.Omega.{arith}
use lib.Dec.{eqb}
use lib.IntN.{ℤ}
use lib.ListN.{length, get_or, length-set}
use borrow.Author.Tests.{eqb-true, eq-eqb}
use Rattle.laws.proofs.Tests.{both, and_intro, if_ind, by_cases}
use Rattle.lists.specs.Counts.{add_up}
use Rattle.lists.proofs.Counts.{one_of_sum, sum-one_more}
use Rattle.weight.specs.Weight.{is_weight}
use Rattle.verdict.specs.Verdict.{is_grade}
use Rattle.tally.specs.Tally.{tally_fit, takes, weighed_with, added}
use Rattle.tally.proofs.Facts.{fit_tells, takes_tells}
use Rattle.tally.proofs.Added.{added-fit}
use Rattle.part.specs.Class.{class_of}
use Rattle.part.specs.Part.{empty_part, part_fit, added_part, takes_in}
use Rattle.part.specs.declared.part.Part.{Part}
use Rattle.part.proofs.Held.{class-known}

pub record FitPart (p : Part) : Type 0 where
  pub tally : tally_fit p.tally ≡ true
  pub count : length p.classes ≡ 21
  pub sum : add_up p.classes ≡ p.tally.n

pub fit-part : (p : Part) → part_fit p ≡ true → FitPart p
unfolding part_fit
fit-part p f =
    let a = both (tally_fit p.tally && eqb (length p.classes) 21) (eqb (add_up p.classes) p.tally.n) f in
    let b = both (tally_fit p.tally) (eqb (length p.classes) 21) a.0 in
    record { tally = b.0; count = eqb-true _ _ b.1; sum = eqb-true _ _ a.1 }

-- and back
pub part_fit_lem : (p : Part) → FitPart p → part_fit p ≡ true
unfolding part_fit
part_fit_lem p f = and_intro (and_intro f.tally (eq-eqb _ _ f.count)) (eq-eqb _ _ f.sum)

-- each count is at most 999,999
pub count_small : (p : Part) (k : ℕ) → part_fit p ≡ true → get_or p.classes k 0 ≤ 999999
count_small p k h = let f = fit-part p h in omega (arith, one_of_sum p.classes k, f.sum, (fit_tells p.tally f.tally).bounds.n)

pub empty-fit : part_fit empty_part ≡ true
unfolding part_fit tally_fit add_up
empty-fit = refl

module _ (p : Part) (v : ℕ) (net target : ℤ) (t : takes_in p v net target ≡ true) where
  tests : (part_fit p ≡ true) × (is_weight target ≡ true) × (takes p.tally v net ≡ true)
  unfolding takes_in
  tests =
      let a = both (part_fit p && is_weight target) (takes p.tally v net) t in
      let b = both (part_fit p) (is_weight target) a.0 in
      (b.0, b.1, a.1)

  was : FitPart p
  was = fit-part p tests.0

  -- "The 21 counts add to n": one more of both, or of neither
  sums_agree : add_up (added_part p v net target).classes ≡ (added p.tally v net).n
  unfolding added_part added weighed_with
  sums_agree =
      by_cases (is_grade v)
      (λ y. rw y (sum-one_more p.classes (class_of net target) (omega (arith, class-known net target, was.count)) ∙ rw was.sum refl))
      (λ n. rw n was.sum)

  count-stays : length (added_part p v net target).classes ≡ 21
  unfolding added_part
  count-stays =
      if_ind (λ (l : List ℕ). length l ≡ 21) (is_grade v) _ _ (λ _. length-set p.classes (class_of net target) _ ∙ was.count) (λ _. was.count)

  tally-stays : tally_fit (added_part p v net target).tally ≡ true
  unfolding added_part
  tally-stays = let h = takes_tells p.tally v net tests.2 in added-fit p.tally v net h.fit h.verdict h.weight h.room

  pub added-fits : FitPart (added_part p v net target)
  unfolding added_part
  added-fits = record { tally = tally-stays; count = count-stays; sum = sums_agree }
