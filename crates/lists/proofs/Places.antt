-- A list in places of a fixed number n, d behind it, as loops fill them. Assumes nothing.
use mathlib.Core.Path.{◌≡◌, refl, sym, ap, ◌∙◌}
use mathlib.Core.Bool.{Bool, true, false, ◌&&◌, not}
use mathlib.Core.List.{List, [], ◌∷◌, ◌++◌, map, map-append, append-nil}
use Prim.Native.Nat.{ℕ, suc, ◌+◌, ◌-◌, ◌≤◌, ◌<◌}
use native.Mathlib.Omega.{arith}
use native.Mathlib.Numerals.{add-one}
use lib.ListN.{length, get_or, set, take, replicate, length-append, length-map}
use lib.Seq.{take-suc, length-take-le}
use lib.Dec.{eqb}
use borrow.Author.Tests.{eq-eqb, ne_eqb, not-true}
use Rattle.laws.specs.Choice.{bit}
use Rattle.laws.proofs.Tests.{by_cases}
use Rattle.lists.specs.Each.{any_of, without, without_first}
use Rattle.lists.specs.Places.{in_places}
use Rattle.lists.proofs.Each.{without_more, first-less, first-leaves, first-stays}

module _ {A : Type 0} (n : ℕ) (d : A) where
  first-free : (l : List A) (m : ℕ) (x : A) → set (l ++ replicate (suc m) d) (length l) x ≡ (l ++ x ∷ []) ++ replicate m d
  first-free [] m x = refl
  first-free (y ∷ l) m x = ap (λ (k : List A). y ∷ k) (first-free l m x)

  -- a store at the first free place puts the element last
  pub put_last : (l : List A) (k : ℕ) (x : A) → k ≡ length l → k < n → set (in_places n d l) k x ≡ in_places n d (l ++ x ∷ [])
  put_last l k x e h =
      let m : n - length l ≡ suc (n - length (l ++ x ∷ [])) = omega (arith, length-append l (x ∷ [])) in
      rw (e, m) (first-free l (n - length (l ++ x ∷ [])) x)

  -- the elements before place i copied, each changed by g
  pub change_next :
      (g : A → A) (l : List A) (i : ℕ) → i < length l → i < n
      → set (in_places n d (map g (take i l))) i (g (get_or l i d)) ≡ in_places n d (map g (take (i + 1) l))
  change_next g l i h m =
      let e : i ≡ length (map g (take i l)) = omega (arith, length-map (take i l) g, length-take-le i l (omega arith)) in
      rw (add-one, take-suc l i d h, map-append g (take i l) (get_or l i d ∷ [])) (put_last (map g (take i l)) i (g (get_or l i d)) e m)

  -- ---- the elements before place i changed by g, and packed without those that then pass p: k are left

  module _ (p : A → Bool) (g : A → A) where
    abbrev pub packed : List A → List A
    packed l = without p (map g l)

    packed-next : (l : List A) (i : ℕ) → i < length l → packed (take (i + 1) l) ≡ packed (take i l) ++ without p (g (get_or l i d) ∷ [])
    packed-next l i h = rw (add-one, take-suc l i d h, map-append g (take i l) (get_or l i d ∷ [])) (without_more p _ _)

    pub record Packing (l : List A) (i : ℕ) (out : List A) (k : ℕ) : Type 0 where
      pub count : k ≡ length (packed (take i l))
      pub held : out ≡ in_places n d (packed (take i l))
      pub short : k ≤ i

    pub none-packed : (l : List A) → Packing l 0 (replicate n d) 0
    unfolding without
    none-packed l = let e : n - 0 ≡ n = omega arith in record { count = refl; held = rw e; short = omega arith }

    pub packed-stays :
        (l : List A) (i : ℕ) (out : List A) (k : ℕ) → Packing l i out k → i < length l → i < n → p (g (get_or l i d)) ≡ false
        → Packing l (i + 1) (set out k (g (get_or l i d))) (k + 1)
    unfolding without
    packed-stays l i out k s h m t =
        let x = g (get_or l i d) in
        let e : packed (take (i + 1) l) ≡ packed (take i l) ++ x ∷ [] = packed-next l i h ∙ rw t in
        record {
          count = rw (e, length-append (packed (take i l)) (x ∷ []), ← s.count) refl;
          held = rw (e, s.held) (put_last (packed (take i l)) k x s.count (omega (arith, s.short)));
          short = omega (arith, s.short);
        }

    pub packed-leaves :
        (l : List A) (i : ℕ) (out : List A) (k : ℕ) → Packing l i out k → i < length l → p (g (get_or l i d)) ≡ true
        → Packing l (i + 1) out k
    unfolding without
    packed-leaves l i out k s h t =
        let e : packed (take (i + 1) l) ≡ packed (take i l) = packed-next l i h ∙ rw (t, append-nil) in
        record { count = rw e s.count; held = rw e s.held; short = omega (arith, s.short) }

  -- ---- the elements before place i copied but for the first that passes p: k are left

  module _ (p : A → Bool) where
    pub record Leaving (l : List A) (i : ℕ) (out : List A) (k : ℕ) : Type 0 where
      pub count : k ≡ length (without_first p (take i l))
      pub held : out ≡ in_places n d (without_first p (take i l))

    pub none_left_lem : (l : List A) → Leaving l 0 (replicate n d) 0
    unfolding without_first
    none_left_lem l = let e : n - 0 ≡ n = omega arith in record { count = refl; held = rw e }

    -- k is i as long as none has passed
    pub left-count : (l : List A) (i : ℕ) (out : List A) (k : ℕ) → Leaving l i out k → i ≤ length l → k + bit (any_of p (take i l)) ≡ i
    left-count l i out k s h = omega (arith, s.count, first-less p (take i l), length-take-le i l h)

    pub none_passed : (l : List A) (i : ℕ) (out : List A) (k : ℕ) → Leaving l i out k → i ≤ length l → not (any_of p (take i l)) ≡ eqb k i
    none_passed l i out k s h =
        by_cases (any_of p (take i l))
        (λ t. rw t (sym (ne_eqb k i (λ e. omega (arith, rw t at (left-count l i out k s h))))))
        (λ t. rw t (sym (eq-eqb k i (omega (arith, rw t at (left-count l i out k s h))))))

    pub left-stays :
        (l : List A) (i : ℕ) (out : List A) (k : ℕ) → Leaving l i out k → i < length l → i < n → eqb k i && p (get_or l i d) ≡ false
        → Leaving l (i + 1) (set out k (get_or l i d)) (k + 1)
    left-stays l i out k s h m t =
        let x = get_or l i d in
        let e : without_first p (take (i + 1) l) ≡ without_first p (take i l) ++ x ∷ [] =
        rw (add-one, take-suc l i d h) (first-stays p (take i l) x (rw (none_passed l i out k s (omega arith)) t)) in
        record {
          count = rw (e, length-append (without_first p (take i l)) (x ∷ []), ← s.count) refl;
          held = rw (e, s.held) (put_last (without_first p (take i l)) k x s.count (omega (arith, left-count l i out k s (omega arith))));
        }

    pub left-leaves :
        (l : List A) (i : ℕ) (out : List A) (k : ℕ) → Leaving l i out k → i < length l → k ≡ i → p (get_or l i d) ≡ true
        → Leaving l (i + 1) out k
    left-leaves l i out k s h c t =
        let none : any_of p (take i l) ≡ false = not-true _ (none_passed l i out k s (omega arith) ∙ eq-eqb k i c) in
        let e : without_first p (take (i + 1) l) ≡ without_first p (take i l) =
        rw (add-one, take-suc l i d h) (first-leaves p (take i l) (get_or l i d) none t) in
        record { count = rw e s.count; held = rw e s.held }
