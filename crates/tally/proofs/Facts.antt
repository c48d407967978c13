-- What a fit tally tells: plain facts of its numbers, which omega reads. Assumes nothing.
use mathlib.Core.Path.{◌≡◌, sym, ◌∙◌}
use mathlib.Core.Bool.{Bool, true, false, ◌&&◌}
use mathlib.Core.List.{List, [], ◌∷◌}
use Prim.Native.Nat.{ℕ, ◌*◌, ◌≤◌}
use native.Mathlib.Nat.{mul-le-mul_left}
use native.Mathlib.Omega.{arith}
use lib.Dec.{leb, eqb}
use lib.IntN.{ℤ, nat_abs}
use borrow.Author.Tests.{leb-true, eqb-true, le-leb}
use Rattle.weight.specs.Weight.{is_weight}
use Rattle.laws.proofs.Tests.{both, by_cases, never}
use Rattle.verdict.specs.Verdict.{is_verdict}
use Rattle.tally.specs.Tally.{graded, total, tally_fit, has_room, takes}
use Rattle.tally.specs.Steps.{small_counts, Bounded, none_is_zero}
use Rattle.tally.specs.declared.tally.Tally.{Tally}

-- tests joined from the left, as `&&` and `&` join them
abbrev joined : Bool → List Bool → Bool
joined b [] = b
joined b (c ∷ l) = joined (b && c) l

abbrev AllTrue : List Bool → Type 0
AllTrue [] = Unit {0}
AllTrue (c ∷ l) = (c ≡ true) × AllTrue l

-- each of them was passed
each : (b : Bool) (l : List Bool) → joined b l ≡ true → AllTrue (b ∷ l)
each b [] h = (h, tt)
each b (c ∷ l) h =
    let r = each (b && c) l h in
    let f = both b c r.0 in
    (f.0, (f.1, r.1))

pub record FitTally (t : Tally) : Type 0 where
  pub verdicts : total t ≤ 999999
  pub grades : t.n ≡ graded t
  pub bounds : Bounded t
  pub largest : nat_abs t.largest ≤ 999999
  pub smallest : nat_abs t.smallest ≤ 999999

pub fit_tells : (t : Tally) → tally_fit t ≡ true → FitTally t
unfolding tally_fit
fit_tells t h =
    let f = each (leb (total t) 999999)
    (eqb t.n (graded t) ∷ leb (nat_abs t.sum) (t.n * 999999) ∷ leb t.squares (t.n * 1000000000000)
    ∷ is_weight t.largest ∷ is_weight t.smallest ∷ none_is_zero t ∷ []) h in
    let v : total t ≤ 999999 = leb-true _ _ f.0 in
    let g : t.n ≡ graded t = eqb-true _ _ f.1.0 in
    record {
      verdicts = v;
      grades = g;
      bounds = record { n = omega arith; sum = leb-true _ _ f.1.1.0; squares = leb-true _ _ f.1.1.1.0 };
      largest = leb-true _ _ f.1.1.1.1.0;
      smallest = leb-true _ _ f.1.1.1.1.1.0;
    }

-- a tally with a count that is not small, or with a large n, is unfit
pub large_unfit : (t : Tally) → small_counts t.counts && leb t.n 999999 ≡ false → tally_fit t ≡ false
large_unfit t h =
    by_cases (tally_fit t) (λ y. never (sym h ∙ small (fit_tells t y))) (λ n. n)
  where
    small : FitTally t → small_counts t.counts && leb t.n 999999 ≡ true
    small f =
        let c = t.counts in
        let v = f.verdicts in
        rw (
          le-leb c.lolo 999999 (omega arith),
          le-leb c.lo 999999 (omega arith),
          le-leb c.ok 999999 (omega arith),
          le-leb c.hi 999999 (omega arith),
          le-leb c.hihi 999999 (omega arith),
          le-leb c.foreign 999999 (omega arith),
          le-leb c.double 999999 (omega arith),
          le-leb c.crash 999999 (omega arith),
          le-leb t.n 999999 f.bounds.n,
        )

-- a weight's square
pub square_le : (m : ℕ) → m ≤ 999999 → m * m ≤ 999998000001
square_le m h = omega (arith, mul-le-mul_left m h)

-- what it tells that a verdict is taken
pub record Taken (t : Tally) (v : ℕ) (net : ℤ) : Type 0 where
  pub fit : tally_fit t ≡ true
  pub verdict : is_verdict v ≡ true
  pub weight : is_weight net ≡ true
  pub room : has_room t ≡ true

pub takes_tells : (t : Tally) (v : ℕ) (net : ℤ) → takes t v net ≡ true → Taken t v net
unfolding takes
takes_tells t v net h =
    let f = each (tally_fit t) (is_verdict v ∷ is_weight net ∷ has_room t ∷ []) h in
    record { fit = f.0; verdict = f.1.0; weight = f.1.1.0; room = f.1.1.1.0 }
