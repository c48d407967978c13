-- A field of a line: what the reader found of it, and what the form says. Assumes nothing.
use Prim.Native.Nat.{ℕ, ◌≤◌, ◌<◌}
use mathlib.Core.Path.{◌≡◌, refl, sym, ap}
use mathlib.Core.Bool.{Bool, true, false}
use mathlib.Core.List.{List, [], ◌∷◌, ◌++◌, map}
use native.Mathlib.Omega.{arith}
use lib.Dec.{eqb}
use lib.IntN.{ℤ, pos}
use lib.ListN.{length, drop, length-drop, drop_of_length-le}
use Rattle.std.specs.Prelude.{Option, None, Some}
use Rattle.laws.proofs.Tests.{both, by_cases, never}
use Rattle.numeral.specs.Number.{Head, none, some, hold, number_head}
use Rattle.numeral.specs.Found.{held_head}
use Rattle.text.specs.Form.{Item, byte, number, other, values, and_rest, line_values}
use Rattle.text.specs.Views.{is_prefix}
use Rattle.field.specs.Field.{field_head, sole_form, sole_value}

-- ---- a number that was found is that number

is_some : Head → Bool
is_some none = false
is_some (some v s) = true

value_of : Head → ℤ
value_of none = pos 0
value_of (some v s) = v

rest_of : Head → List ℕ
rest_of none = []
rest_of (some v s) = s

pub nothing-found : {A : Type 0} (v : ℤ) (s : List ℕ) → none ≡ some v s → A
unfolding is_some
nothing-found v s e = never (ap is_some e)

pub same-value : {v w : ℤ} {s r : List ℕ} → some v s ≡ some w r → v ≡ w
unfolding value_of
same-value e = ap value_of e

pub same_rest : {v w : ℤ} {s r : List ℕ} → some v s ≡ some w r → s ≡ r
unfolding rest_of
same_rest e = ap rest_of e

-- ---- the form, and the text behind a key

-- a form that begins with a key and a number
pub field_law : (key : List ℕ) (form : List Item) (s : List ℕ) → line_values (map byte key ++ number ∷ form) s ≡ and_rest (line_values form) (field_head key s)
field_law [] form s = refl
field_law (k ∷ key) form [] = refl
field_law (k ∷ key) form (b ∷ s) = by_cases (eqb b k) (λ e. rw e (field_law key form s)) (λ e. rw e refl)

-- a key that stands there lies within the text
pub prefix_within : (key s : List ℕ) → is_prefix key s ≡ true → length key ≤ length s
prefix_within [] s h = omega arith
prefix_within (k ∷ key) [] h = never h
prefix_within (k ∷ key) (b ∷ s) h = let p = prefix_within key s (both (eqb b k) (is_prefix key s) h).1 in omega (arith, p)

-- ---- what the reader found, held or not

pub none-held : (h : Head) → none ≡ held_head h → h ≡ none
none-held none e = refl
none-held (some w r) e = nothing-found (hold w) r e

-- a number was found, and s behind it; v is what is held of it
pub record Number (h : Head) (v : ℤ) (s : List ℕ) : Type 0 where
  pub whole : ℤ
  pub held : v ≡ hold whole
  pub head : h ≡ some whole s

pub number-held : (h : Head) (v : ℤ) (s : List ℕ) → some v s ≡ held_head h → Number h v s
number-held none v s e = nothing-found v s (sym e)
number-held (some w r) v s e = record { whole = w; held = same-value e; head = ap (λ (t : List ℕ). some w t) (sym (same_rest e)) }

-- behind the last number nothing stands
pub more-behind : (s : List ℕ) → 0 < length s → line_values [] s ≡ other
more-behind [] h = absurd (omega (arith, h))
more-behind (b ∷ s) h = refl

-- ---- a line of one field

module _ (key s : List ℕ) where
  pub sole_none : none ≡ held_head (field_head key s) → None ≡ sole_value (line_values (sole_form key) s)
  sole_none e = rw (field_law key [] s, none-held (field_head key s) e) refl

  module _ (v : ℤ) (next : ℕ) (n : Number (field_head key s) v (drop next s)) where
    pub sole-more : next < length s → None ≡ sole_value (line_values (sole_form key) s)
    sole-more h =
        let some_left : 0 < length (drop next s) = let l = length-drop next s in omega (arith, l, h) in
        rw (field_law key [] s, n.head, more-behind (drop next s) some_left) refl

    pub sole-is : length s ≤ next → Some v ≡ sole_value (line_values (sole_form key) s)
    sole-is h = rw (field_law key [] s, n.head, drop_of_length-le s h, n.held) refl

-- the number of a line of one field, v as it is held: nothing stands behind it
pub record Sole (key s : List ℕ) (v : ℤ) : Type 0 where
  pub whole : ℤ
  pub held : v ≡ hold whole
  pub head : number_head (drop (length key) s) ≡ some whole []
  pub form : line_values (sole_form key) s ≡ values (whole ∷ [])

is_there : {A : Type 0} → Option A → Bool
is_there None = false
is_there (Some x) = true

there_or : ℤ → Option ℤ → ℤ
there_or v None = v
there_or v (Some w) = w

nothing-there : {A B : Type 0} (x : B) → Some x ≡ None → A
unfolding is_there
nothing-there x e = never (sym (ap is_there e))

same_there : {v w : ℤ} → Some v ≡ Some w → v ≡ w
unfolding there_or
same_there {v = v} e = ap (there_or v) e

sole-head : (key s : List ℕ) (v : ℤ) (h : Head) → line_values (sole_form key) s ≡ and_rest (line_values []) h → number_head (drop (length key) s) ≡ h
    → Some v ≡ sole_value (line_values (sole_form key) s) → Sole key s v
sole-head key s v none f n e = nothing-there v (rw f at e)
sole-head key s v (some w []) f n e = record { whole = w; held = same_there (rw f at e); head = n; form = f }
sole-head key s v (some w (b ∷ r)) f n e = nothing-there v (rw f at e)

pub sole : (key s : List ℕ) (v : ℤ) → Some v ≡ sole_value (line_values (sole_form key) s) → Sole key s v
sole key s v e =
    by_cases (is_prefix key s)
    (λ y. sole-head key s v (number_head (drop (length key) s)) (rw y at (field_law key [] s)) refl e)
    (λ y. let f : line_values (sole_form key) s ≡ other = rw y at (field_law key [] s) in nothing-there v (rw f at e))
