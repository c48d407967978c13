-- The values of a line, one behind the other: what holds before each item of the form, and how an item keeps it. Assumes nothing.
use Prim.Native.Nat.{ℕ, suc, ◌+◌, ◌≤◌, ◌<◌}
use mathlib.Core.Path.{◌≡◌, refl, sym, ap, ◌∙◌}
use mathlib.Core.Bool.{Bool, true, false, not, ◌&&◌}
use mathlib.Core.List.{List, [], ◌∷◌, ◌++◌, append_assoc, append-nil}
use lib.ListN.{length, get_or, take, drop, set, drop_of_length-le, length-set}
use lib.Seq.{take-suc-set, take_all}
use lib.Dec.{eqb}
use lib.IntN.{ℤ}
use native.Mathlib.Omega.{arith}
use native.Mathlib.Numerals.{add-one}
use borrow.Author.Tests.{eq-eqb, not-true}
use Rattle.laws.specs.Choice.{when◌then◌else◌}
use Rattle.laws.proofs.Tests.{both, never}
use Rattle.numeral.specs.Number.{Head, none, some, number_head, four_head, hold}
use Rattle.text.specs.Form.{Item, byte, number, four, Values, other, values, also, and_rest, line_values, value_count}
use Rattle.text.specs.Read.{held}
use Rattle.numeral.specs.Found.{held_head, found}
use Rattle.text.specs.Views.{is_literal, item_of, items_of, value_head, form_values}
use Rattle.numeral.specs.declared.Found.{Found}
use Rattle.std.specs.Prelude.{Option, Some, None}
use Rattle.numeral.proofs.Heads.{Byte}
use Rattle.lists.proofs.Past.{cut}

abbrev pub prepend : List ℤ → Values → Values
prepend vs other = other
prepend vs (values ws) = values (vs ++ ws)

prepend_nil : (w : Values) → prepend [] w ≡ w
prepend_nil other = refl
prepend_nil (values ws) = refl

prepend-also : (vs : List ℤ) (v : ℤ) (w : Values) → prepend vs (also v w) ≡ prepend (vs ++ v ∷ []) w
prepend-also vs v other = refl
prepend-also vs v (values ws) = ap values (sym (append_assoc vs (v ∷ []) ws))

pub held-also : (v : ℤ) (w : Values) → held (also v w) ≡ also (hold v) (held w)
held-also v other = refl
held-also v (values ws) = refl

held-rest : (g : List ℕ → Values) (h : Head) → held (and_rest g h) ≡ and_rest (λ s. held (g s)) (held_head h)
held-rest g none = refl
held-rest g (some v rest) = held-also v (g rest)

-- the kinds of item
literal_item : (c : ℕ) → is_literal c ≡ true → item_of c ≡ byte c
literal_item c h =
    let b = both (not (eqb c 35)) (not (eqb c 36)) h in
    rw (not-true (eqb c 35) b.0, not-true (eqb c 36) b.1)

value-item : (c : ℕ) (form : List Item) (s : List ℕ) → is_literal c ≡ false
    → (line_values (item_of c ∷ form) s ≡ and_rest (line_values form) (value_head c s)) × (value_count (item_of c ∷ form) ≡ suc (value_count form))
value-item c form s h = go (eqb c 35) (eqb c 36) h
  where
    go : (t u : Bool) → not t && not u ≡ false
        → (line_values ((when t then number else (when u then four else byte c)) ∷ form) s ≡ and_rest (line_values form) (when t then number_head s else four_head s))
        × (value_count ((when t then number else (when u then four else byte c)) ∷ form) ≡ suc (value_count form))
    go true u h = (refl, refl)
    go false true h = (refl, refl)
    go false false h = never (sym h)

-- before item k: the values so far and those of the rest are the line's, and there is room for those of the rest
pub record State (line form : List ℕ) (vs : List ℤ) (count at k : ℕ) : Type 0 where
  pub inside : k ≤ length form
  pub left : count + value_count (items_of (drop k form)) ≡ value_count (items_of form)
  pub room : length vs ≡ value_count (items_of form)
  pub same : prepend (take count vs) (held (line_values (items_of (drop k form)) (drop at line))) ≡ held (line_values (items_of form) line)

pub start : (line form : List ℕ) (vs : List ℤ) → length vs ≡ value_count (items_of form) → State line form vs 0 0 0
start line form vs l =
    record { inside = omega arith; left = omega arith; room = l; same = prepend_nil (held (line_values (items_of form) line)) }

module _ {line form : List ℕ} {vs : List ℤ} {count at k : ℕ} (st : State line form vs count at k) (h : k < length form) where
  pub byte-found : is_literal (get_or form k 0) ≡ true → Byte (get_or form k 0) line at → State line form vs count (at + 1) (k + 1)
  byte-found l b =
      let e = literal_item (get_or form k 0) l in
      record {
        inside = omega arith;
        left = rw (cut form k h, e) at st.left;
        room = st.room;
        same = rw (cut form k h, e, b.rest, eq-eqb (get_or form k 0) (get_or form k 0) refl) at st.same;
      }

  one_value : is_literal (get_or form k 0) ≡ false → (r : Option Found) → found line r ≡ held_head (value_head (get_or form k 0) (drop at line))
      → prepend (take count vs) (and_rest (λ s. held (line_values (items_of (drop (k + 1) form)) s)) (found line r)) ≡ held (line_values (items_of form) line)
  one_value l r e =
      let f : List Item = items_of (drop (k + 1) form) in
      ap (prepend (take count vs))
      (ap (and_rest (λ s. held (line_values f s))) e
      ∙ sym (held-rest (line_values f) (value_head (get_or form k 0) (drop at line)))
      ∙ sym (ap held (value-item (get_or form k 0) f (drop at line) l).0))
      ∙ (rw (cut form k h) at st.same)

  pub value_room_lem : is_literal (get_or form k 0) ≡ false → count + suc (value_count (items_of (drop (k + 1) form))) ≡ value_count (items_of form)
  value_room_lem l =
      let n = (value-item (get_or form k 0) (items_of (drop (k + 1) form)) [] l).1 in
      let m : count + value_count (item_of (get_or form k 0) ∷ items_of (drop (k + 1) form)) ≡ value_count (items_of form) = rw (cut form k h) at st.left in
      omega arith

  pub value_found : is_literal (get_or form k 0) ≡ false → (f : Found) → found line (Some f) ≡ held_head (value_head (get_or form k 0) (drop at line))
      → State line form (set vs count f.value) (count + 1) f.next (k + 1)
  value_found l f e =
      let v = f.value in
      let r = value_room_lem l in
      let room : length vs ≡ value_count (items_of form) = st.room in
      let t : take (count + 1) (set vs count v) ≡ take count vs ++ v ∷ [] = rw add-one (take-suc-set vs count v (omega arith)) in
      record {
        inside = omega arith;
        left = omega arith;
        room = length-set vs count v ∙ room;
        same = rw t (sym (prepend-also (take count vs) v (held (line_values (items_of (drop (k + 1) form)) (drop f.next line)))) ∙ one_value l (Some f) e);
      }

-- behind the last item the line must end
module _ {line form : List ℕ} {vs : List ℤ} {count at k : ℕ} (st : State line form vs count at k) (h : length form ≤ k) where
  pub ended : length line ≤ at → form_values (Some vs) ≡ held (line_values (items_of form) line)
  ended e =
      let n : count + 0 ≡ value_count (items_of form) = rw (drop_of_length-le form h) at st.left in
      let room : length vs ≡ value_count (items_of form) = st.room in
      let all : take count vs ≡ vs = take_all count vs (omega arith) in
      rw all at (ap values (sym (append-nil (take count vs))) ∙ (rw (drop_of_length-le form h, drop_of_length-le line e) at st.same))

  pub more-text : at < length line → form_values None ≡ held (line_values (items_of form) line)
  more-text e = rw (drop_of_length-le form h, cut line at e) at st.same
