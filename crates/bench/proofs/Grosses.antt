-- The grosses kept, as a list: those of a list laid out, and the newest after one more; the largest and the smallest of weights
-- are weights; a run and a tick keep them fit; what arms and what a detection needs. Assumes nothing.
use mathlib.Core.Path.{◌≡◌, refl}
use mathlib.Core.Bool.{Bool, true, false, ◌&&◌, not}
use mathlib.Core.List.{List, [], ◌∷◌, ◌++◌}
use Prim.Native.Nat.{ℕ, zero, suc, ◌+◌, ◌-◌, ◌≤◌, ◌<◌, min}
use native.Mathlib.Omega.{arith}
use lib.Dec.{ltb, eqb}
use lib.IntN.{ℤ, pos, negsuc}
use lib.Signed.{le_z, lt_z}
use Rattle.std.specs.Int.{int_max, int_min}
use lib.ListN.{length, get_or, take, drop, replicate, length-take}
use Rattle.std.proofs.lemmas.List.{drop-replicate}
use lib.Seq.{take-append_seam, take-take, take_all, length-take-le}
use borrow.Author.Tests.{lt-leb, ltb-true, ltb-false, not-true, tests}
use Rattle.laws.specs.Choice.{when◌then◌else◌}
use Rattle.laws.proofs.Tests.{both, and_intro, by_cases, if_ind, never}
use Rattle.weight.specs.Weight.{is_weight}
use Rattle.lists.specs.Each.{all_of, folded}
use Rattle.lists.proofs.Each.{folded_keeps}
use Rattle.bench.specs.Bench.{last_ticks, grosses_of, keeping, with_armed, begun, pushed, ticked_on, largest_of, smallest_of, steady, detects, disarmed, bench_fit}
use Rattle.bench.specs.declared.Bench.{Bench}

-- the grosses of a list laid out are the list
pub grosses_laid : (armed : ℕ) (l : List ℤ) → grosses_of (keeping armed l) ≡ l
unfolding grosses_of keeping
grosses_laid armed l = take-append_seam l _

-- beside one more, all of fewer than ten stay, and the newest nine of ten
newest : (n : ℕ) (l : List ℤ) → take 9 (take n l) ≡ take (min n 9) l
newest n l =
    by_cases (ltb n last_ticks)
    (λ h. let e : min n 9 ≡ n = omega (arith, ltb-true n last_ticks h) in rw e (take_all 9 (take n l) (omega (arith, length-take n l, ltb-true n last_ticks h))))
    (λ h. let e : min n 9 ≡ 9 = omega (arith, ltb-false n last_ticks h) in rw e (take-take 9 n l (omega (arith, ltb-false n last_ticks h))))

-- a gross, behind it the k that stay, and zeros in the other places
pub laid_behind :
    (armed : ℕ) (x : ℤ) (n k : ℕ) (l : List ℤ) → length l ≡ last_ticks → k ≡ min n 9
    → ◌≡◌ {A = Bench} (record { armed = armed; grosses = x ∷ (take k l ++ drop (k + 1 - 1) (replicate 9 (pos 0))); n = k + 1 })
    (keeping armed (x ∷ take 9 (take n l)))
unfolding keeping
laid_behind armed x n k l h e =
    let c : length (take k l) ≡ k = length-take-le k l (omega arith) in
    let places : 9 - (k + 1 - 1) ≡ last_ticks - suc k = omega arith in
    let more : k + 1 ≡ suc k = omega arith in
    rw (newest n l, ← e, c, drop-replicate {X = ℤ} (k + 1 - 1) 9 (pos 0), places, more)

-- ---- the largest and the smallest

larger-weight : (x y : ℤ) → is_weight x ≡ true → is_weight y ≡ true → is_weight (int_max x y) ≡ true
larger-weight x y h k = if_ind (λ (z : ℤ). is_weight z ≡ true) (lt_z y x) x y (λ _. h) (λ _. k)

smaller-weight : (x y : ℤ) → is_weight x ≡ true → is_weight y ≡ true → is_weight (int_min x y) ≡ true
smaller-weight x y h k = if_ind (λ (z : ℤ). is_weight z ≡ true) (lt_z y x) y x (λ _. k) (λ _. h)

pub largest_weight_lem : (l : List ℤ) → all_of is_weight l ≡ true → is_weight (largest_of l) ≡ true
unfolding all_of
largest_weight_lem [] h = refl
largest_weight_lem (x ∷ l) h = let b = both (is_weight x) (all_of is_weight l) h in folded_keeps int_max is_weight larger-weight l x b.0 b.1

pub smallest-weight : (l : List ℤ) → all_of is_weight l ≡ true → is_weight (smallest_of l) ≡ true
unfolding all_of
smallest-weight [] h = refl
smallest-weight (x ∷ l) h = let b = both (is_weight x) (all_of is_weight l) h in folded_keeps int_min is_weight smaller-weight l x b.0 b.1

-- from the first on
pub largest-first : (l : List ℤ) → 0 < length l → largest_of l ≡ folded int_max (get_or l 0 (pos 0)) (drop 1 l)
largest-first [] h = absurd (omega arith)
largest-first (x ∷ l) h = refl

pub smallest-first : (l : List ℤ) → 0 < length l → smallest_of l ≡ folded int_min (get_or l 0 (pos 0)) (drop 1 l)
smallest-first [] h = absurd (omega arith)
smallest-first (x ∷ l) h = refl

-- ---- what stays fit

pub fit-weights : (b : Bench) → bench_fit b ≡ true → all_of is_weight (grosses_of b) ≡ true
unfolding bench_fit
fit-weights b h = (both _ _ h).1

-- at most ten weights
laid-fit : (armed : ℕ) (l : List ℤ) → length l ≤ last_ticks → all_of is_weight l ≡ true → bench_fit (keeping armed l) ≡ true
unfolding bench_fit keeping
laid-fit armed l n w =
    let all : all_of is_weight (grosses_of (keeping armed l)) ≡ true = rw (grosses_laid armed l) w in
    grind (arith, tests, n, all)

armed_fit : (b : Bench) (armed : ℕ) → bench_fit b ≡ true → bench_fit (with_armed b armed) ≡ true
unfolding bench_fit grosses_of
armed_fit b armed f = f

pub fresh_fit : bench_fit (keeping 0 []) ≡ true
unfolding all_of
fresh_fit = laid-fit 0 [] (omega arith) refl

pub begun-fit : (b : Bench) (stopped : Bool) → bench_fit (begun b stopped) ≡ true
unfolding begun all_of
begun-fit b stopped = laid-fit (when stopped then 1 else b.armed) [] (omega arith) refl

take_weights : (k : ℕ) (l : List ℤ) → all_of is_weight l ≡ true → all_of is_weight (take k l) ≡ true
unfolding all_of
take_weights zero l h = refl
take_weights (suc k) [] h = refl
take_weights (suc k) (x ∷ l) h = let b = both (is_weight x) (all_of is_weight l) h in and_intro b.0 (take_weights k l b.1)

pushed-fit : (b : Bench) (gross : ℤ) → is_weight gross ≡ true → bench_fit b ≡ true → bench_fit (pushed b gross) ≡ true
unfolding pushed all_of
pushed-fit b gross w f =
    laid-fit b.armed (take last_ticks (gross ∷ grosses_of b))
    (omega (arith, length-take last_ticks (gross ∷ grosses_of b)))
    (take_weights last_ticks (gross ∷ grosses_of b) (and_intro w (fit-weights b f)))

pub ticked-fit : (b : Bench) (gross nearzero : ℤ) → is_weight gross ≡ true → bench_fit b ≡ true → bench_fit (ticked_on b gross nearzero) ≡ true
unfolding ticked_on
ticked-fit b gross nearzero w f =
    let p = pushed-fit b gross w f in
    if_ind (λ (k : Bench). bench_fit k ≡ true) (le_z gross nearzero) _ _ (λ _. armed_fit (pushed b gross) 1 p) (λ _. p)

pub disarmed-fit : (b : Bench) → bench_fit b ≡ true → bench_fit (disarmed b) ≡ true
unfolding disarmed
disarmed-fit b f = armed_fit b 0 f

-- ---- arming

pub begun_armed : (b : Bench) → (begun b false).armed ≡ b.armed
unfolding begun keeping
begun_armed b = refl

-- above nearzero a tick arms nothing
pub ticked_armed : (b : Bench) (gross nearzero : ℤ) → le_z gross nearzero ≡ false → (ticked_on b gross nearzero).armed ≡ b.armed
unfolding ticked_on pushed keeping
ticked_armed b gross nearzero h = rw h

pub disarmed_armed : (b : Bench) → (disarmed b).armed ≡ 0
unfolding disarmed
disarmed_armed b = refl

above : (x y : ℤ) → lt_z y x ≡ true → le_z x y ≡ false
above (pos a) (pos b) h = lt-leb a b (ltb-true b a h)
above (pos a) (negsuc b) h = refl
above (negsuc a) (pos b) h = never h
above (negsuc a) (negsuc b) h = lt-leb b a (ltb-true a b h)

-- a box is detected only by an armed line, with its gross above nearzero
pub detects_armed : (b : Bench) (gross nearzero : ℤ) → detects b gross nearzero ≡ true → (eqb b.armed 0 ≡ false) × (le_z gross nearzero ≡ false)
unfolding detects
detects_armed b gross nearzero h =
    let s = both (not (eqb b.armed 0) && lt_z nearzero gross) (steady b) h in
    let a = both (not (eqb b.armed 0)) (lt_z nearzero gross) s.0 in
    (not-true _ a.0, above gross nearzero a.1)
