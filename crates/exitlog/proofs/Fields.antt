-- A field of a line: what the reader found of it, and what the form says. Assumes nothing.
use Prim.Native.Nat.{ℕ, suc, ◌-◌, ◌≤◌, ◌<◌, min, zero-le}
use mathlib.Core.Path.{◌≡◌, refl, sym, ap, ◌∙◌}
use mathlib.Core.Bool.{true, false}
use mathlib.Core.List.{List, [], ◌∷◌, ◌++◌, map}
use native.Mathlib.Omega.{arith}
use lib.IntN.{ℤ, pos, negsuc, nat_abs}
use lib.ListN.{length, drop, length-drop, drop_of_length-le}
use lib.Signed.{lt_z}
use borrow.Author.Tests.{le-ltb}
use Rattle.laws.proofs.Tests.{never}
use Rattle.numeral.specs.Number.{none, some, limit, hold, unsigned_of}
use Rattle.numeral.specs.Found.{held_head}
use Rattle.text.specs.Form.{Item, byte, number, line_values}
use Rattle.decimal.specs.Bytes.{bytes}
use Rattle.exitlog.specs.Entry.{window_form, tick_of, tick_in, window_entry}
use Rattle.std.specs.Prelude.{None, Some}
use Rattle.exitlog.specs.declared.entry.Entry.TheVariants.{Begin}
use Rattle.exitlog.specs.Views.{PlainNumber}
use Rattle.field.specs.Field.{field_head, sole_form}
use Rattle.field.proofs.Fields.{field_law, none-held, Number, more-behind, Sole}

-- what is held of a number has its sign
held_sign : (m : ℕ) → lt_z (hold (negsuc m)) (pos 0) ≡ true
held_sign m = let e : min (suc m) limit ≡ suc (min m (limit - 1)) = omega arith in rw e refl

below-wide : (w : ℤ) → lt_z (hold w) (pos 0) ≡ true → None ≡ tick_of w
below-wide (pos m) h = never (sym (le-ltb (min m limit) 0 zero-le) ∙ h)
below-wide (negsuc m) h = refl

not_below : (w : ℤ) → lt_z (hold w) (pos 0) ≡ false → w ≡ pos (nat_abs w)
not_below (pos m) h = refl
not_below (negsuc m) h = never (sym h ∙ held_sign m)

-- ---- a line of one field with a tick

module _ (key s : List ℕ) (v : ℤ) (sole : Sole key s v) where
  pub tick-below : lt_z v (pos 0) ≡ true → None ≡ tick_in (line_values (sole_form key) s)
  tick-below h = below-wide sole.whole (rw sole.held at h) ∙ sym (ap tick_in sole.form)

  module _ (h : lt_z v (pos 0) ≡ false) where
    pub plain : PlainNumber (drop (length key) s)
    plain = record { n = nat_abs sole.whole; is = sole.head ∙ ap (λ (z : ℤ). some z []) (not_below sole.whole (rw sole.held at h)) }

    pub tick-plain : tick_of (pos plain.n) ≡ tick_in (line_values (sole_form key) s)
    unfolding plain
    tick-plain = ap tick_of (sym (not_below sole.whole (rw sole.held at h))) ∙ sym (ap tick_in sole.form)

-- ---- the line of a window

module _ (s : List ℕ) where
  abbrev behind : List Item
  behind = map byte (bytes " b=") ++ number ∷ []

  pub no_first : none ≡ held_head (field_head (bytes "a=") s) → None ≡ window_entry (line_values window_form s)
  no_first e = rw (field_law (bytes "a=") behind s, none-held (field_head (bytes "a=") s) e) refl

  module _ (v : ℤ) (next : ℕ) (n : Number (field_head (bytes "a=") s) v (drop next s)) where
    pub no_second : none ≡ held_head (field_head (bytes " b=") (drop next s)) → None ≡ window_entry (line_values window_form s)
    no_second e =
        rw (field_law (bytes "a=") behind s, n.head, field_law (bytes " b=") [] (drop next s), none-held (field_head (bytes " b=") (drop next s)) e) refl

    module _ (w : ℤ) (end : ℕ) (m : Number (field_head (bytes " b=") (drop next s)) w (drop end s)) where
      pub more_left : end < length s → None ≡ window_entry (line_values window_form s)
      more_left h =
          let some_left : 0 < length (drop end s) = let l = length-drop end s in omega (arith, l, h) in
          rw (field_law (bytes "a=") behind s, n.head, field_law (bytes " b=") [] (drop next s), m.head, more-behind (drop end s) some_left) refl

      pub window-is : length s ≤ end → (a b : ℕ) → a ≡ unsigned_of v → b ≡ unsigned_of w → Some (Begin a b) ≡ window_entry (line_values window_form s)
      window-is h a b x y =
          rw (field_law (bytes "a=") behind s, n.head, field_law (bytes " b=") [] (drop next s), m.head, drop_of_length-le s h, x, y, n.held, m.held) refl
