-- The tally of a page: one more verdict, its total, its fitness. Assumes nothing.
use mathlib.Core.Path.{◌≡◌, refl, sym, ap, ◌∙◌}
use mathlib.Core.Bool.{Bool, true, false, ◌&&◌}
use mathlib.Core.List.{List, [], ◌∷◌}
use Prim.Native.Nat.{ℕ, suc, ◌+◌, ◌*◌, ◌≤◌, ◌<◌}
use native.Mathlib.Nat.{mul-le-mul}
use native.Mathlib.Omega.{arith}
use lib.Dec.{ltb, eqb}
use lib.IntN.{ℤ, nat_abs, ◌+ℤ◌}
use lib.ListN.{length}
use lib.Signed.{lt_z}
use borrow.Author.Tests.{leb-true, le-leb, eq-eqb, ne_eqb}
use Rattle.laws.specs.Choice.{when◌then◌else◌}
use Rattle.weight.specs.Weight.{is_weight}
use Rattle.laws.proofs.Tests.{and_intro, if_ind, by_cases}
use Rattle.laws.proofs.Signed.{abs_add}
use Rattle.lists.specs.Sums.{sum_of, squares_of}
use Rattle.lists.specs.Each.{counted}
use Rattle.lists.specs.Counts.{add_up, one_more}
use Rattle.lists.proofs.Counts.{here, sum-one_more, tab-same, tab_length, tab-more}
use Rattle.verdict.specs.Verdict.{is_verdict, is_grade}
use Rattle.tally.specs.Tally.{graded, total, empty_tally, tally_fit, has_room, largest_with, smallest_with, counted_with, with_counts, weighed_with, added}
use Rattle.tally.specs.declared.tally.Tally.{Tally}
use Rattle.tally.proofs.Ones.{ones, grade_ones}
use Rattle.book.specs.Book.{Verdict}
use Rattle.part.specs.Class.{holds, class_of}
use Rattle.part.specs.Part.{empty_part, part_fit, added_part}
use Rattle.part.proofs.Held.{class-known, holds-is}
use Rattle.part.proofs.Laws.{part_fit_lem}
use Rattle.book.specs.Page.{count_of, nets_of, largest_from, smallest_from, largest_of, smallest_of, counts_of_page, tally_of_page, in_class, histogram, part_of_page}

-- ---- one more verdict

-- a tally of these counts and nets
abbrev from : (p : List Verdict) → ℕ → ℤ → ℕ → ℤ → ℤ → Tally
from p n s q a b =
    record {
      counts = counts_of_page p;
      n = n;
      sum = s;
      squares = q;
      largest = a;
      smallest = b;
    }

same_from : (p : List Verdict) (n n' : ℕ) (s : ℤ) (q : ℕ) (a a' b b' : ℤ) → n ≡ n' → a ≡ a' → b ≡ b' → from p n s q a b ≡ from p n' s q a' b'
same_from p n n' s q a a' b b' e f g = rw (e, f, g)

largest-more : (x : ℤ) (xs : List ℤ) → largest_of (x ∷ xs) ≡ (when eqb (length xs) 0 then x else (when lt_z (largest_of xs) x then x else largest_of xs))
unfolding largest_from
largest-more x [] = refl
largest-more x (y ∷ ys) = rw (ne_eqb (suc (length ys)) 0 (λ h. omega arith))

smallest-more : (x : ℤ) (xs : List ℤ) → smallest_of (x ∷ xs) ≡ (when eqb (length xs) 0 then x else (when lt_z x (smallest_of xs) then x else smallest_of xs))
unfolding smallest_from
smallest-more x [] = refl
smallest-more x (y ∷ ys) = rw (ne_eqb (suc (length ys)) 0 (λ h. omega arith))

-- the tally of a page with one more count
abbrev counted_more : Verdict → List Verdict → Tally
counted_more v p = with_counts (tally_of_page p) (counted_with (tally_of_page p).counts v.outcome)

pub page_more : (v : Verdict) (p : List Verdict) → tally_of_page (v ∷ p) ≡ added (tally_of_page p) v.outcome v.net
unfolding tally_of_page counts_of_page added counted_with weighed_with largest_with smallest_with count_of nets_of sum_of squares_of
page_more v p = go (is_grade v.outcome) refl
  where
    xs : List ℤ
    xs = nets_of p

    Goal : Bool → Type 0
    Goal b =
        from (v ∷ p) (length (when b then v.net ∷ xs else xs)) (sum_of (when b then v.net ∷ xs else xs)) (squares_of (when b then v.net ∷ xs else xs))
        (largest_of (when b then v.net ∷ xs else xs)) (smallest_of (when b then v.net ∷ xs else xs))
        ≡ (when b then weighed_with (counted_more v p) v.net else counted_more v p)

    go : (b : Bool) → is_grade v.outcome ≡ b → Goal (is_grade v.outcome)
    go true e =
        rw e (same_from (v ∷ p) (suc (length xs)) (length xs + 1) (sum_of xs +ℤ v.net) (squares_of xs + nat_abs v.net * nat_abs v.net)
        (largest_of (v.net ∷ xs)) (when eqb (length xs) 0 then v.net else (when lt_z (largest_of xs) v.net then v.net else largest_of xs))
        (smallest_of (v.net ∷ xs)) (when eqb (length xs) 0 then v.net else (when lt_z v.net (smallest_of xs) then v.net else smallest_of xs))
        (omega arith) (largest-more v.net xs) (smallest-more v.net xs))
    go false e = rw e refl

-- ---- totals

-- a verdict that a line gives
pub record Proper (v : Verdict) : Type 0 where
  pub outcome : is_verdict v.outcome ≡ true
  pub net : is_weight v.net ≡ true

pub data Fine : List Verdict → Type 0 where
  none : Fine []
  more : {v : Verdict} {p : List Verdict} → Proper v → Fine p → Fine (v ∷ p)

pub page_total : {p : List Verdict} → Fine p → total (tally_of_page p) ≡ length p
unfolding tally_of_page counts_of_page count_of
page_total none = refl
page_total (more {v} {p} h f) = omega (arith, page_total f, ones v.outcome h.outcome)

length_if : (b : Bool) (x : ℤ) (xs : List ℤ) → length (when b then x ∷ xs else xs) ≡ length xs + (when b then 1 else 0)
length_if true x xs = omega arith
length_if false x xs = omega arith

page_graded : {p : List Verdict} → Fine p → graded (tally_of_page p) ≡ length (nets_of p)
unfolding tally_of_page counts_of_page count_of nets_of
page_graded none = refl
page_graded (more {v} {p} h f) =
    omega (arith, page_graded f, grade_ones v.outcome, length_if (is_grade v.outcome) v.net (nets_of p))

-- ---- fitness

data Weights : List ℤ → Type 0 where
  none : Weights []
  more : {x : ℤ} {xs : List ℤ} → is_weight x ≡ true → Weights xs → Weights (x ∷ xs)

nets-weights : {p : List Verdict} → Fine p → Weights (nets_of p)
unfolding nets_of
nets-weights none = none
nets-weights (more {v} {p} h f) =
    if_ind Weights (is_grade v.outcome) _ _ (λ _. more h.net (nets-weights f)) (λ _. nets-weights f)

sum-within : {xs : List ℤ} → Weights xs → nat_abs (sum_of xs) ≤ length xs * 999999
unfolding sum_of
sum-within none = omega arith
sum-within (more {x} {xs} h w) = omega (arith, sum-within w, abs_add (sum_of xs) x, leb-true (nat_abs x) 999999 h)

square_le : (m : ℕ) → m ≤ 999999 → m * m ≤ 1000000000000
square_le m h = omega (arith, mul-le-mul h h)

squares-within : {xs : List ℤ} → Weights xs → squares_of xs ≤ length xs * 1000000000000
unfolding squares_of
squares-within none = omega arith
squares-within (more {x} {xs} h w) = omega (arith, squares-within w, square_le (nat_abs x) (leb-true (nat_abs x) 999999 h))

largest_weight_lem : {xs : List ℤ} → Weights xs → is_weight (largest_of xs) ≡ true
unfolding largest_from
largest_weight_lem none = refl
largest_weight_lem (more h none) = h
largest_weight_lem (more {x} h (more {x = y} {xs = ys} g w)) =
    if_ind (λ (z : ℤ). is_weight z ≡ true) (lt_z (largest_from y ys) x) _ _ (λ _. h) (λ _. largest_weight_lem (more g w))

smallest-weight : {xs : List ℤ} → Weights xs → is_weight (smallest_of xs) ≡ true
unfolding smallest_from
smallest-weight none = refl
smallest-weight (more h none) = h
smallest-weight (more {x} h (more {x = y} {xs = ys} g w)) =
    if_ind (λ (z : ℤ). is_weight z ≡ true) (lt_z x (smallest_from y ys)) _ _ (λ _. h) (λ _. smallest-weight (more g w))

-- "0 at n = 0"
ends_zero : (xs : List ℤ) → (when eqb (length xs) 0 then eqb (nat_abs (largest_of xs)) 0 && eqb (nat_abs (smallest_of xs)) 0 else true) ≡ true
ends_zero [] = refl
ends_zero (x ∷ xs) = rw (ne_eqb (suc (length xs)) 0 (λ h. omega arith))

pub page_fit : {p : List Verdict} → Fine p → length p ≤ 999999 → tally_fit (tally_of_page p) ≡ true
unfolding tally_fit tally_of_page
page_fit {p} f h =
    let w = nets-weights f in
    and_intro (and_intro (and_intro (and_intro (and_intro (and_intro
    (le-leb (total (tally_of_page p)) 999999 (omega (arith, page_total f)))
    (eq-eqb (length (nets_of p)) (graded (tally_of_page p)) (sym (page_graded f))))
    (le-leb _ _ (sum-within w)))
    (le-leb _ _ (squares-within w)))
    (largest_weight_lem w))
    (smallest-weight w))
    (ends_zero (nets_of p))

pub page_room : {p : List Verdict} → Fine p → has_room (tally_of_page p) ≡ ltb (length p) 999999
unfolding has_room
page_room f = rw (page_total f)

pub page_none : tally_of_page [] ≡ empty_tally
unfolding tally_of_page counts_of_page count_of nets_of sum_of squares_of
page_none = refl

-- ---- the class counts

-- one more graded verdict is one more in its class
module _ (v : Verdict) (p : List Verdict) where
  abbrev class : ℕ
  class = class_of v.net v.target

  -- a graded verdict is in the class that holds it, another in none
  in_class_lem : {a b c : Bool} → a ≡ true → b ≡ c → a && b ≡ c
  in_class_lem p q = rw (p, q) refl

  no_class : {a : Bool} (b : Bool) → a ≡ false → a && b ≡ false
  no_class b p = rw p refl

  one : is_grade v.outcome ≡ true → (k : ℕ) → k < 21 → counted (in_class k) (v ∷ p) ≡ counted (in_class k) p + here class k
  unfolding counted
  one g k h =
      let e : in_class k v ≡ eqb class k = in_class_lem g (holds-is v.net v.target k (omega arith)) in
      rw e (omega arith)

  none_more : is_grade v.outcome ≡ false → (k : ℕ) → k < 21 → counted (in_class k) (v ∷ p) ≡ counted (in_class k) p
  unfolding counted
  none_more n k h =
      let e : in_class k v ≡ false = no_class (holds k v.net v.target) n in
      rw e (omega arith)

  graded-more : is_grade v.outcome ≡ true → histogram (v ∷ p) ≡ one_more (histogram p) class
  graded-more g =
      tab-same 21 (λ (k : ℕ). counted (in_class k) (v ∷ p)) (λ (k : ℕ). counted (in_class k) p + here class k) (one g)
      ∙ sym (tab-more 21 (λ (k : ℕ). counted (in_class k) p) class (omega (arith, class-known v.net v.target)))

  other-more : is_grade v.outcome ≡ false → histogram (v ∷ p) ≡ histogram p
  other-more n = tab-same 21 (λ (k : ℕ). counted (in_class k) (v ∷ p)) (λ (k : ℕ). counted (in_class k) p) (none_more n)

  histogram-more : histogram (v ∷ p) ≡ (when is_grade v.outcome then one_more (histogram p) class else histogram p)
  histogram-more =
      if_ind (λ (l : List ℕ). histogram (v ∷ p) ≡ l) (is_grade v.outcome) (one_more (histogram p) class) (histogram p) graded-more other-more

pub part-more : (v : Verdict) (p : List Verdict) → part_of_page (v ∷ p) ≡ added_part (part_of_page p) v.outcome v.net v.target
unfolding added_part
part-more v p = rw (page_more v p, histogram-more v p)

pub part_none : part_of_page [] ≡ empty_part
unfolding tally_of_page counts_of_page count_of nets_of sum_of squares_of counted
part_none = refl

none_counted_lem : add_up (histogram []) ≡ 0
unfolding add_up counted
none_counted_lem = refl

-- "The 21 counts add to n"
pub counts_add : (p : List Verdict) → add_up (histogram p) ≡ length (nets_of p)
unfolding nets_of
counts_add [] = none_counted_lem
counts_add (v ∷ p) =
    by_cases (is_grade v.outcome)
    (λ g. ap add_up (graded-more v p g)
    ∙ sum-one_more (histogram p) (class v p) (omega (arith, class-known v.net v.target, tab_length 21 (λ (k : ℕ). counted (in_class k) p)))
    ∙ rw g (omega (arith, counts_add p)))
    (λ n. ap add_up (other-more v p n) ∙ rw n (counts_add p))

pub page_part_fit : {p : List Verdict} → Fine p → length p ≤ 999999 → part_fit (part_of_page p) ≡ true
unfolding tally_of_page
page_part_fit {p} f h =
    part_fit_lem (part_of_page p) (record { tally = page_fit f h; count = tab_length 21 (λ (k : ℕ). counted (in_class k) p); sum = counts_add p })
