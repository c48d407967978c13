-- The entries of a list: what holds of each, strictly rising lists as loops test them, and what is left over. Assumes nothing.
use mathlib.Core.Path.{◌≡◌, refl, sym, ap, subst, ◌∙◌}
use mathlib.Core.Bool.{Bool, true, false, ◌&&◌, and-false}
use Rattle.std.specs.List.{AllAdjacentBelow, IsAllAdjacentAnswer}
use mathlib.Core.List.{List, [], ◌∷◌, map}
use mathlib.Core.Logic.{◌≢◌}
use Prim.Native.Nat.{ℕ, zero, suc, ◌+◌, ◌≤◌, ◌<◌}
use native.Mathlib.Omega.{arith}
use lib.Dec.{eqb, ltb, leb}
use lib.ListN.{length, get_or}
use borrow.Author.Tests.{ltb-true, leb-true, eqb-true, eq-eqb, ne_eqb}
use Rattle.std.proofs.lemmas.List.Recursion.{and_at}
use Rattle.laws.proofs.Tests.{both, by_cases, never}
use Rattle.lists.specs.Each.{any_of, all_of, counted}
use Rattle.pairing.specs.Pairing.{Pair, stands_in, Every, none, more, Fits, left_over}
use Rattle.pairing.specs.Answer.{rises, ticks_fit, last_tick}

-- ---- what holds of each entry

pub first : {A : Type 0} {P : A → Type 0} {x : A} {l : List A} → Every P (x ∷ l) → P x
first (more p e) = p

pub rest : {A : Type 0} {P : A → Type 0} {x : A} {l : List A} → Every P (x ∷ l) → Every P l
rest (more p e) = e

pub every_map : {A : Type 0} {P Q : A → Type 0} {l : List A} → ((x : A) → P x → Q x) → Every P l → Every Q l
every_map f none = none
every_map f (more {x = x} p e) = more (f x p) (every_map f e)

pub every-both : {A : Type 0} {P Q : A → Type 0} {l : List A} → Every P l → Every Q l → Every (λ x. P x × Q x) l
every-both none f = none
every-both (more p e) f = more (p, first f) (every-both e (rest f))

-- of each f x, where it holds so of each x
pub every_of : {A : Type 0} {P : ℕ → Type 0} (f : A → ℕ) {l : List A} → Every (λ x. P (f x)) l → Every P (map f l)
every_of f none = none
every_of f (more p e) = more p (every_of f e)

-- a pair that fits two lists fits others that its ticks stand in
pub fits_in : {vs ts us ss : List ℕ} {a b : ℕ} (q : Pair) → Fits vs ts a b q → stands_in us q.verdict ≡ true → stands_in ss q.signal ≡ true → Fits us ss a b q
fits_in q f v s = record { verdict_in = v; signal_in = s; from = f.from; upto = f.upto }

-- ---- an entry that stands in a list

pub stands-first : (x : ℕ) (l : List ℕ) → stands_in (x ∷ l) x ≡ true
unfolding any_of
stands-first x l = rw (eq-eqb x x refl)

pub stands_later : (x y : ℕ) (l : List ℕ) → stands_in l x ≡ true → stands_in (y ∷ l) x ≡ true
unfolding any_of
stands_later x y l h = by_cases (eqb x y) (λ e. rw e) (λ e. rw e h)

pub stands-behind : (x y : ℕ) (l : List ℕ) → stands_in (y ∷ l) x ≡ true → x ≢ y → stands_in l x ≡ true
unfolding any_of
stands-behind x y l h n = rw (ne_eqb x y n) at h

pub stands-none : {A : Type 0} (x : ℕ) → stands_in [] x ≡ true → A
unfolding any_of
stands-none x h = never h

pub every_in : {P : ℕ → Type 0} {l : List ℕ} (x : ℕ) → Every P l → stands_in l x ≡ true → P x
every_in x none h = stands-none x h
every_in {P} x (more {x = y} {l = l} p e) h =
    by_cases (eqb x y)
    (λ s. subst P (sym (eqb-true x y s)) p)
    (λ n. every_in x e (stands-behind x y l h (λ s. never (sym n ∙ eq-eqb x y s))))

-- ---- strictly rising lists

-- each entry is before every later one
abbrev pub Sorted : List ℕ → Type 0
Sorted [] = Unit
Sorted (x ∷ l) = Every (λ y. x < y) l × Sorted l

pub sorted : (l : List ℕ) → rises l ≡ true → Sorted l
sorted [] h = tt
sorted (x ∷ []) h = (none, tt)
sorted (x ∷ y ∷ l) h =
    let p = both (ltb x y) (rises (y ∷ l)) h in
    let q = ltb-true x y p.0 in
    let s = sorted (y ∷ l) p.1 in
    (more q (every_map (λ z g. omega (arith, q, g)) s.0), s)

-- each entry and the next tell whether a list rises
all-rise : (l : List ℕ) → AllAdjacentBelow (λ x y. true ≡ ltb x y) l (length l) → rises l ≡ true
all-rise [] h = refl
all-rise (x ∷ []) h = refl
all-rise (x ∷ y ∷ l) h =
    let on : (k : ℕ) → suc k + 1 ≡ suc (k + 1) = λ k. omega arith in
    rw (sym (h 0 0 (omega arith)), all-rise (y ∷ l) (λ k d g. rw (on k) at (h (suc k) d (omega (arith, g))))) refl

one-falls : (l : List ℕ) (k : ℕ) → k + 1 < length l → ((d : ℕ) → false ≡ ltb (get_or l k d) (get_or l (k + 1) d)) → rises l ≡ false
one-falls [] k g h = absurd (omega (arith, g))
one-falls (x ∷ []) k g h = absurd (omega (arith, g))
one-falls (x ∷ y ∷ l) zero g h = rw (sym (h 0))
one-falls (x ∷ y ∷ l) (suc k) g h =
    let on : suc k + 1 ≡ suc (k + 1) = omega arith in
    ap (λ (r : Bool). ltb x y && r) (one-falls (y ∷ l) k (omega (arith, g)) (λ d. rw on at h d)) ∙ and-false (ltb x y)

pub rises_by : (l : List ℕ) (r : Bool) → IsAllAdjacentAnswer (λ x y b. b ≡ ltb x y) l r → r ≡ rises l
rises_by l true h = sym (all-rise l h)
rises_by l false h = sym (one-falls l h.0 h.1 h.2)

-- ---- ticks

pub tick_fits : (l : List ℕ) (i : ℕ) → ticks_fit l ≡ true → i < length l → get_or l i 0 ≤ last_tick
unfolding all_of
tick_fits l i h k = leb-true _ _ (and_at ticks_fit (λ t. leb t last_tick) refl (λ _ _. refl) l i 0 k h)

-- ---- what is left over

pub left-all : (l : List ℕ) → left_over [] l ≡ length l
unfolding any_of counted
left-all [] = refl
left-all (x ∷ l) = let h = left-all l in omega (arith, h)

pub left-none : (used : List ℕ) → left_over used [] ≡ 0
unfolding counted
left-none used = refl

stands_not : (x : ℕ) (l : List ℕ) → Every (λ y. x ≢ y) l → stands_in l x ≡ false
unfolding any_of
stands_not x [] e = refl
stands_not x (y ∷ l) e = rw (ne_eqb x y (first e)) (stands_not x l (rest e))

-- an entry that is not used is left over
pub left-more : (x : ℕ) (used l : List ℕ) → Every (λ y. x ≢ y) used → left_over used (x ∷ l) ≡ suc (left_over used l)
unfolding counted
left-more x used l e = rw (stands_not x used e) (omega arith)

left-same : (x : ℕ) (used l : List ℕ) → Every (λ y. x < y) l → left_over (x ∷ used) l ≡ left_over used l
unfolding any_of counted
left-same x used [] e = refl
left-same x used (y ∷ l) e =
    let n : y ≢ x = λ s. let h = first e in omega (arith, h, s) in
    rw (ne_eqb y x n, left-same x used l (rest e))

-- one that is used is not
pub left_used : (x : ℕ) (used l : List ℕ) → Every (λ y. x < y) l → left_over (x ∷ used) (x ∷ l) ≡ left_over used l
unfolding any_of counted
left_used x used l e = let h = left-same x used l e in rw (eq-eqb x x refl) (omega (arith, h))
