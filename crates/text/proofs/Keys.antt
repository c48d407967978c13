-- A sample's text by its keys: what the quick reader tests, and what it tells of the form. Assumes nothing.
use Prim.Native.Nat.{ℕ, ◌+◌, ◌-◌, ◌≤◌, ◌<◌, min}
use mathlib.Core.Path.{◌≡◌, refl, sym, ap, ◌∙◌}
use mathlib.Core.Bool.{and_assoc, and-true, Bool, true, false, ◌&&◌, ◌||◌}
use mathlib.Core.List.{List, [], ◌∷◌, ◌++◌, map}
use native.Mathlib.Omega.{arith}
use lib.Dec.{eqb}
use lib.IntN.{ℤ, pos}
use lib.ListN.{length, get_or, take, drop, drop_of_length-le, length-drop}
use lib.Seq.{drop-drop, take_all}
use borrow.Author.Tests.{eqb-true, ne_eqb}
use Rattle.laws.proofs.Tests.{both, by_cases, never}
use Rattle.decimal.specs.Bytes.{bytes}
use Rattle.numeral.specs.Number.{Head, none, some, number_head, limit, hold, unsigned_of}
use Rattle.text.specs.Form.{Item, byte, number, Values, values, also, and_rest, line_values}
use Rattle.text.specs.Read.{held, sample, says, first_of}
use Rattle.numeral.specs.Found.{byte_is, held_head}
use Rattle.text.specs.Views.{is_prefix, is_level, sensor_key, emergency_key, safety_key, foreign_key, gross_key, head_is, middle_is}
use Rattle.std.specs.Prelude.{Some, None}
use Rattle.event.specs.declared.Event.TheVariants as event
use Rattle.text.specs.declared.Read.TheVariants as read
use Rattle.numeral.proofs.Heads.{inside}
use Rattle.lists.proofs.Past.{cut}
use Rattle.text.proofs.Filling.{held-also}

-- ---- the tests of the code

pub short : (key s : List ℕ) → length s < length key → false ≡ is_prefix key s
short [] s h = absurd (omega arith)
short (k ∷ key) [] h = refl
short (k ∷ key) (b ∷ s) h = by_cases (eqb b k) (λ e. rw e (short key s (omega arith))) (λ e. rw e refl)

pub prefix_step : (same : Bool) (key s : List ℕ) (j : ℕ) → j < length key → j < length s
    → same && is_prefix (drop j key) (drop j s) ≡ (same && eqb (get_or s j 0) (get_or key j 0)) && is_prefix (drop (j + 1) key) (drop (j + 1) s)
prefix_step same key s j p q =
    rw (cut key j p, cut s j q) (sym (and_assoc same (eqb (get_or s j 0) (get_or key j 0)) _))

pub prefix_end : (same : Bool) (key s : List ℕ) (j : ℕ) → length key ≤ j → same && is_prefix (drop j key) s ≡ same
prefix_end same key s j h = rw (drop_of_length-le key h) (and-true same)

-- behind the end of a line stands the key of no bytes alone
pub prefix_past : (key line : List ℕ) (at : ℕ) → length line ≤ at → eqb (length key) 0 ≡ is_prefix key (drop at line)
prefix_past [] line at h = refl
prefix_past (k ∷ key) line at h = rw (drop_of_length-le line h) (ne_eqb (length (k ∷ key)) 0 (λ e. absurd (omega (arith, e))))

pub record Level (line : List ℕ) (i : ℕ) : Type 0 where
  pub inside : i < length line
  pub least : 48 ≤ get_or line i 0
  pub most : get_or line i 0 ≤ 49
  pub test : eqb (get_or line i 0) 48 || eqb (get_or line i 0) 49 ≡ true

pub level-here : (line : List ℕ) (i : ℕ) → is_level (drop i line) ≡ true → Level line i
level-here line i h =
    let l = inside is_level line i refl h in
    let t : eqb (get_or line i 0) 48 || eqb (get_or line i 0) 49 ≡ true = rw (cut line i l) at h in
    let r = is (get_or line i 0) t in
    record { inside = l; least = r.0; most = r.1; test = t }
  where
    is : (b : ℕ) → eqb b 48 || eqb b 49 ≡ true → (48 ≤ b) × (b ≤ 49)
    is b t =
        by_cases (eqb b 48)
        (λ e. let x = eqb-true b 48 e in (omega arith, omega arith))
        (λ e. let x = eqb-true b 49 (rw e at t) in (omega arith, omega arith))

-- ---- what a passed test tells of the form

prefix_law : (key : List ℕ) (form : List Item) (s : List ℕ) → is_prefix key s ≡ true → line_values (map byte key ++ form) s ≡ line_values form (drop (length key) s)
prefix_law [] form s h = refl
prefix_law (k ∷ key) form [] h = never h
prefix_law (k ∷ key) form (b ∷ s) h =
    let p = both (eqb b k) (is_prefix key s) h in rw p.0 (prefix_law key form s p.1)

space : (key s : List ℕ) → is_prefix (32 ∷ key) s ≡ true → byte_is 32 s ≡ true
space key [] h = never h
space key (b ∷ s) h = (both (eqb b 32) (is_prefix key s) h).0

level-number : (b : ℕ) (s : List ℕ) → eqb b 48 || eqb b 49 ≡ true → byte_is 32 s ≡ true → number_head (b ∷ s) ≡ some (pos (b - 48)) s
level-number b [] t h = never h
level-number b (d ∷ s) t h =
    by_cases (eqb b 48)
    (λ e. rw (eqb-true b 48 e) refl)
    (λ e. rw (eqb-true b 49 (rw e at t), eqb-true d 32 h) refl)

-- a level and the key behind it
level_law : (line key : List ℕ) (i : ℕ) (form : List Item) → is_level (drop i line) ≡ true → is_prefix (32 ∷ key) (drop (i + 1) line) ≡ true
    → line_values (number ∷ (map byte (32 ∷ key) ++ form)) (drop i line) ≡ also (pos (get_or line i 0 - 48)) (line_values form (drop (i + 1 + length (32 ∷ key)) line))
level_law line key i form t p =
    let l = level-here line i t in
    let n : number_head (drop i line) ≡ some (pos (get_or line i 0 - 48)) (drop (i + 1) line) =
    rw (cut line i l.inside) (level-number (get_or line i 0) (drop (i + 1) line) l.test (space key (drop (i + 1) line) p)) in
    ap (and_rest (line_values (map byte (32 ∷ key) ++ form))) n
    ∙ ap (also (pos (get_or line i 0 - 48))) (prefix_law (32 ∷ key) form (drop (i + 1) line) p ∙ ap (line_values form) (drop-drop (length (32 ∷ key)) (i + 1) line))

-- the form behind the value of safety
abbrev pub tail : List Item
tail = map byte foreign_key ++ (number ∷ (map byte gross_key ++ (number ∷ [])))

-- the form behind the key of emergency
abbrev behind : List Item
behind = number ∷ (map byte safety_key ++ (number ∷ tail))

pub head_law : (s : List ℕ) → head_is s ≡ true
    → line_values sample.form s ≡ also (pos (get_or s 7 0 - 48)) (also (pos (get_or s 19 0 - 48)) (and_rest (line_values tail) (number_head (drop 28 s))))
head_law s h =
    let p = both (is_prefix sensor_key (drop 0 s)) _ h in
    let q = both (is_level (drop 7 s)) _ p.1 in
    let r = both (is_prefix emergency_key (drop 8 s)) _ q.1 in
    let t = both (is_level (drop 19 s)) (is_prefix safety_key (drop 20 s)) r.1 in
    prefix_law sensor_key (number ∷ (map byte emergency_key ++ behind)) s p.0
    ∙ level_law s (bytes "emergency=") 7 behind q.0 r.0
    ∙ ap (also (pos (get_or s 7 0 - 48))) (level_law s (bytes "safety=") 19 (number ∷ tail) t.0 t.1)

pub middle_law : (s : List ℕ) → middle_is s ≡ true
    → line_values tail s ≡ also (pos (get_or s 9 0 - 48)) (and_rest (line_values []) (number_head (drop 17 s)))
middle_law s h =
    let p = both (is_prefix foreign_key (drop 0 s)) _ h in
    let q = both (is_level (drop 9 s)) (is_prefix gross_key (drop 10 s)) p.1 in
    prefix_law foreign_key (number ∷ (map byte gross_key ++ (number ∷ []))) s p.0
    ∙ level_law s (bytes "gross=") 9 (number ∷ []) q.0 q.1

pub head_levels : (s : List ℕ) → head_is s ≡ true → (is_level (drop 7 s) ≡ true) × (is_level (drop 19 s) ≡ true)
head_levels s h =
    let p = both (is_prefix sensor_key (drop 0 s)) _ h in
    let q = both (is_level (drop 7 s)) _ p.1 in
    let r = both (is_prefix emergency_key (drop 8 s)) _ q.1 in
    (q.0, (both (is_level (drop 19 s)) (is_prefix safety_key (drop 20 s)) r.1).0)

pub middle_level : (s : List ℕ) → middle_is s ≡ true → is_level (drop 9 s) ≡ true
middle_level s h = (both (is_level (drop 9 s)) (is_prefix gross_key (drop 10 s)) (both (is_prefix foreign_key (drop 0 s)) _ h).1).0

-- ---- the values, held

-- a level is held as it is
held-level : (line : List ℕ) (i : ℕ) (w : Values) → is_level (drop i line) ≡ true → held (also (pos (get_or line i 0 - 48)) w) ≡ also (pos (get_or line i 0 - 48)) (held w)
held-level line i w t =
    let l = level-here line i t in
    let e : min (get_or line i 0 - 48) limit ≡ get_or line i 0 - 48 = omega arith in
    held-also (pos (get_or line i 0 - 48)) w ∙ ap (λ (n : ℕ). also (pos n) (held w)) e

is_some : Head → Bool
is_some none = false
is_some (some v s) = true

value_of : Head → ℤ
value_of none = pos 0
value_of (some v s) = v

rest_of : Head → List ℕ
rest_of none = []
rest_of (some v s) = s

-- a number that was found, held
held_number : (read : List ℕ → Values) (h : Head) (v : ℤ) (s : List ℕ) → some v s ≡ held_head h → held (and_rest read h) ≡ also v (held (read s))
unfolding is_some value_of rest_of
held_number read none v s e = never (sym (ap is_some e))
held_number read (some w r) v s e =
    let x : v ≡ hold w = ap value_of e in
    let y : s ≡ r = ap rest_of e in
    held-also w (read r) ∙ rw (x, y) refl

-- what the quick reader found is what the line says
pub quick_law : (line rest : List ℕ) (v g : ℤ) (at end : ℕ) → head_is line ≡ true → some v (drop at line) ≡ held_head (number_head (drop 28 line))
    → rest ≡ drop at line → middle_is rest ≡ true → some g (drop end rest) ≡ held_head (number_head (drop 17 rest)) → length rest ≤ end
    → held (line_values sample.form line) ≡ values (pos (get_or line 7 0 - 48) ∷ pos (get_or line 19 0 - 48) ∷ v ∷ pos (get_or rest 9 0 - 48) ∷ g ∷ [])
quick_law line rest v g at end h n r m k z =
    let a = pos (get_or line 7 0 - 48) in
    let b = pos (get_or line 19 0 - 48) in
    let c = pos (get_or rest 9 0 - 48) in
    let l = head_levels line h in
    let safety-on = and_rest (line_values tail) (number_head (drop 28 line)) in
    let last : held (and_rest (line_values []) (number_head (drop 17 rest))) ≡ values (g ∷ []) =
    held_number (line_values []) (number_head (drop 17 rest)) g (drop end rest) k ∙ rw (drop_of_length-le rest z) refl in
    let middle : held (line_values tail rest) ≡ values (c ∷ g ∷ []) =
    ap held (middle_law rest m) ∙ held-level rest 9 (and_rest (line_values []) (number_head (drop 17 rest))) (middle_level rest m) ∙ ap (also c) last in
    let number-part : held (and_rest (line_values tail) (number_head (drop 28 line))) ≡ values (v ∷ c ∷ g ∷ []) =
    held_number (line_values tail) (number_head (drop 28 line)) v (drop at line) n ∙ ap (also v) (ap (λ (l : List ℕ). held (line_values tail l)) (sym r) ∙ middle) in
    ap held (head_law line h)
    ∙ held-level line 7 (also b safety-on) l.0
    ∙ ap (also a) (held-level line 19 safety-on l.1 ∙ ap (also b) number-part)

-- the part of a line from a place on is the rest of it
pub from_place : (line : List ℕ) (at : ℕ) → take (length line - at) (drop at line) ≡ drop at line
from_place line at = take_all (length line - at) (drop at line) (simp length-drop (omega arith))

pub quick_says : (line rest : List ℕ) (v g : ℤ) (sensor emergency safety foreign : ℕ)
    → sensor ≡ get_or line 7 0 - 48 → emergency ≡ get_or line 19 0 - 48 → safety ≡ unsigned_of v → foreign ≡ get_or rest 9 0 - 48
    → held (line_values sample.form line) ≡ values (pos (get_or line 7 0 - 48) ∷ pos (get_or line 19 0 - 48) ∷ v ∷ pos (get_or rest 9 0 - 48) ∷ g ∷ [])
    → Some (read.Event (event.Sample (record { gross = g; sensor = sensor; emergency = emergency; safety = safety; foreign = foreign }))) ≡ first_of (sample ∷ []) line
quick_says line rest v g sensor emergency safety foreign a b c d e =
    rw (a, b, c, d) (sym (ap (λ (w : Values). says w sample.means None) e))
