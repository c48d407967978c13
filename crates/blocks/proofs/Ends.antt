-- Where a line of text ends in the input. Assumes nothing.
use mathlib.Core.Path.{◌≡◌, refl, sym, ap, ◌∙◌}
use mathlib.Core.Bool.{Bool, true, false, ◌||◌}
use mathlib.Core.List.{List, [], ◌∷◌, ◌++◌}
use Prim.Native.Nat.{ℕ, zero, suc, ◌+◌, ◌*◌, ◌≤◌, ◌<◌}
use native.Mathlib.Omega.{arith}
use lib.Dec.{eqb}
use lib.ListN.{length, get_or, take, drop, length-drop, length-append, drop_of_length-le}
use lib.Seq.{drop-drop, drop-cons, drop_at, get_or-take, take_at}
use Rattle.laws.proofs.Tests.{by_cases, never}
use Rattle.lists.proofs.Past.{cut}
use Rattle.decimal.specs.Bytes.{lf}
use Rattle.blocks.specs.Lines.{lf_among, line_length, end_from}

neither : (a b : Bool) → a || b ≡ false → (a ≡ false) × (b ≡ false)
neither false b h = (refl, h)
neither true b h = never (sym h)

pub at-lf : (b : ℕ) (s : List ℕ) → eqb b lf ≡ true → line_length (b ∷ s) ≡ 0
unfolding line_length
at-lf b s e = rw e refl

pub before-lf : (b : ℕ) (s : List ℕ) → eqb b lf ≡ false → line_length (b ∷ s) ≡ suc (line_length s)
unfolding line_length
before-lf b s e = rw e refl

pub no_more : line_length [] ≡ 0
unfolding line_length
no_more = refl

pub at_most : (l : List ℕ) → line_length l ≤ length l
at_most [] = rw no_more (omega arith)
at_most (b ∷ s) =
    by_cases (eqb b lf)
    (λ y. rw (at-lf b s y) (omega arith))
    (λ n. let h = at_most s in rw (before-lf b s n) (omega (arith, h)))

among_taken : (k n : ℕ) (s : List ℕ) → k ≤ n → lf_among (take n s) k ≡ lf_among s k
among_taken zero n s h = refl
among_taken (suc k) n s h = rw (among_taken k n s (omega (arith, h)), get_or-take n s k 0 (omega (arith, h))) refl

among_none : (k : ℕ) (s : List ℕ) → k ≤ length s → lf_among s k ≡ false → line_length s ≡ k + line_length (drop k s)
among_none zero s h e = omega arith
among_none (suc k) s h e =
    let o = neither (lf_among s k) (eqb (get_or s k 0) lf) e in
    let rest = among_none k s (omega (arith, h)) o.0 in
    let one = before-lf (get_or s k 0) (drop (suc k) s) o.1 in
    let cons = drop-cons s k 0 (omega (arith, h)) in
    let all : line_length s ≡ k + suc (line_length (drop (suc k) s)) = rw (cons, one) at rest in
    omega (arith, all)

-- ---- a place in the input, and the end of the line of text that it is in
module _ (l : List ℕ) where
  pub goes_on : (i : ℕ) → i < length l → eqb (get_or l i 0) lf ≡ false → end_from l (i + 1) ≡ end_from l i
  goes_on i h e = rw (cut l i h, before-lf (get_or l i 0) (drop (i + 1) l) e) (omega arith)

  pub skips : (i : ℕ) → i + 16 ≤ length l → lf_among (take 16 (drop i l)) 16 ≡ false → end_from l (i + 16) ≡ end_from l i
  skips i h e =
      let n = length-drop i l in
      let none = among_none 16 (drop i l) (omega (arith, h, n)) (sym (among_taken 16 16 (drop i l) (omega arith)) ∙ e) in
      let behind = drop-drop 16 i l in
      rw (none, behind) (omega arith)

  pub ends_here : (i : ℕ) → i < length l → eqb (get_or l i 0) lf ≡ true → end_from l i ≡ i
  ends_here i h e = rw (cut l i h, at-lf (get_or l i 0) (drop (i + 1) l) e) (omega arith)

  pub ends_last : (i : ℕ) → length l ≤ i → end_from l i ≡ i
  ends_last i h = rw (drop_of_length-le l h, no_more) (omega arith)

-- ---- by sixteens: behind so many of them, from a place on, these bytes are left, and the line of text has not ended
pub record GoesOnFrom (l : List ℕ) (start k : ℕ) (rest : List ℕ) : Type 0 where
  pub within : start + 16 * k ≤ length l
  pub left : rest ≡ drop (start + 16 * k) l
  pub same : end_from l (start + 16 * k) ≡ end_from l start

pub sixteens_more : (l : List ℕ) (start k : ℕ) (rest bytes behind : List ℕ) → GoesOnFrom l start k rest → rest ≡ bytes ++ behind → length bytes ≡ 16
    → lf_among bytes 16 ≡ false → GoesOnFrom l start (k + 1) behind
sixteens_more l start k rest bytes behind g joined size none =
    let place = start + 16 * k in
    let here : drop place l ≡ bytes ++ behind = sym g.left ∙ joined in
    let first : take 16 (drop place l) ≡ bytes = ap (take 16) here ∙ take_at bytes behind 16 size in
    let next : place + 16 ≡ start + 16 * (k + 1) = omega arith in
    let n = length-drop place l in
    let m : length (drop place l) ≡ 16 + length behind = ap length here ∙ length-append bytes behind ∙ rw size refl in
    let w = g.within in
    record {
      within = omega (arith, n, m, w);
      left = sym (drop_at bytes behind 16 size) ∙ ap (drop 16) (sym here) ∙ drop-drop 16 place l ∙ ap (λ (j : ℕ). drop j l) next;
      same = ap (end_from l) (sym next) ∙ skips l place (omega (arith, n, m, w)) (rw first none) ∙ g.same;
    }
