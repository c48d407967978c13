-- The lines of the classes, one more at a time. Assumes nothing.
use mathlib.Core.Path.{◌≡◌, refl, ap, ◌∙◌}
use mathlib.Core.List.{List, [], ◌∷◌, ◌++◌, append-nil}
use Prim.Native.Nat.{ℕ, suc, ◌+◌, ◌≤◌, ◌<◌, ◌/◌}
use native.Mathlib.Omega.{arith}
use native.Mathlib.Numerals.{add-one}
use lib.Dec.{ltb}
use lib.ListN.{length, get_or, take}
use lib.Seq.{take-suc, length-take-le}
use borrow.Author.Tests.{ltb-true, ltb-false}
use Rattle.laws.proofs.Tests.{by_cases}
use Rattle.decimal.specs.Number.{decimal}
use Rattle.decimal.proofs.Digits.{length_digit, length_more}
use Rattle.print.specs.Text.{line_end, ahead}
use Rattle.print.specs.Sheet.{class_field, classes_from}
use Rattle.print.proofs.Parts.{ahead_then}

-- the number of a class has at most two digits
pub class-short : (k : ℕ) → k ≤ 20 → length (decimal k) ≤ 2
class-short k h =
    by_cases (ltb k 10)
    (λ y. omega (arith, length_digit k (ltb-true k 10 y)))
    (λ n. let l = length_more k (ltb-false k 10 n) in let m = length_digit (k / 10) (omega arith) in omega arith)

classes-more : (j : ℕ) (l : List ℕ) (n : ℕ) → classes_from j (l ++ n ∷ []) ≡ classes_from j l ++ class_field (j + length l) n ∷ []
unfolding classes_from
classes-more j [] n = rw none refl
  where
    none : j + 0 ≡ j
    none = omega arith
classes-more j (x ∷ l) n = ap (λ (r : List (List ℕ)). class_field j x ∷ r) (classes-more (j + 1) l n ∙ rw more refl)
  where
    more : j + 1 + length l ≡ j + suc (length l)
    more = omega arith

-- the text of the classes before k, and the line of class k
pub text-more : (l : List ℕ) (k : ℕ) → k < length l
    → ahead line_end (classes_from 0 (take k l)) ++ (line_end ++ class_field k (get_or l k 0)) ≡ ahead line_end (classes_from 0 (take (k + 1) l))
text-more l k h =
    let n = get_or l k 0 in
    let e : 0 + length (take k l) ≡ k = omega (arith, length-take-le k l (omega arith)) in
    let more : classes_from 0 (take (k + 1) l) ≡ classes_from 0 (take k l) ++ class_field k n ∷ [] =
    rw (add-one, take-suc l k 0 h) (classes-more 0 (take k l) n ∙ rw e refl) in
    rw (more, ahead_then line_end (classes_from 0 (take k l)) (class_field k n ∷ []), append-nil (class_field k n)) refl

pub text-none : (l : List ℕ) → ahead line_end (classes_from 0 (take 0 l)) ≡ []
unfolding classes_from
text-none l = refl
