-- Reading and writing a line of a form undo each other. Assumes nothing.
use Prim.Native.Nat.{ℕ, suc, zero, ◌+◌, ◌-◌, ◌*◌, ◌/◌, ◌%◌, ◌≤◌, ◌<◌}
use mathlib.Core.Path.{◌≡◌, refl, sym, ap, ◌∙◌}
use mathlib.Core.Bool.{Bool, true, false}
use mathlib.Core.List.{List, [], ◌∷◌, ◌++◌, append_assoc, append-nil}
use lib.Dec.{leb, eqb}
use lib.IntN.{ℤ, pos, negsuc}
use lib.ListN.{length}
use native.Mathlib.Omega.{arith}
use borrow.Author.Tests.{le-leb, eq-eqb, ne_eqb, leb-true, eqb-true}
use Prim.Native.String.{String, [] as empty, ◌∷◌ as ◌then◌}
use Rattle.laws.specs.Choice.{when◌then◌else◌, within}
use Rattle.laws.proofs.Tests.{both, clash, never}
use Rattle.decimal.specs.Number.{decimal, number_text}
use Rattle.decimal.proofs.Digits.{decimal_digit, decimal-more, by_digits}
use Rattle.numeral.specs.Number.{Head, none, some, is_digit, signed, digits, positive, number_head, four_digits, four_number, four_head, four_text}
use Rattle.text.specs.Form.{Item, byte, number, four, word_items, field_items, more_items, fields_form, Values, other, values, also, and_rest, line_values, line_text}
use Rattle.wording.specs.OneText.{OneText}
use Rattle.std.specs.Prelude.{None}
use Rattle.numeral.specs.Found.{digit_head}
use Rattle.numeral.proofs.Heads.{digits-end, digit-bounds, four-bounds}

-- Writing, then reading.

digit_yes : (d : ℕ) → d < 10 → is_digit (48 + d) ≡ true
digit_yes d h = simp (le-leb 48 (48 + d) (omega arith), le-leb (48 + d) 57 (omega arith))

pub digits-one : (below : Bool) (n d : ℕ) (t : List ℕ) → d < 10 → digits below n ((48 + d) ∷ t) ≡ digits below (n * 10 + d) t
digits-one below n d t h = rw (digit_yes d h) (ap (λ (x : ℕ). digits below (n * 10 + x) t) (omega arith))

pub digits_of_text : (below : Bool) (n : ℕ) (t : List ℕ) → digits below 0 (decimal n ++ t) ≡ digits below n t
digits_of_text below n =
    by_digits (λ (m : ℕ) (l : List ℕ). (t : List ℕ) → digits below 0 (l ++ t) ≡ digits below m t)
    (λ m lt t. digits-one below 0 m t lt ∙ ap (λ (x : ℕ). digits below x t) (omega arith))
    (λ m ge rest t.
    ap (digits below 0) (append_assoc (decimal (m / 10)) ((48 + m % 10) ∷ []) t)
    ∙ rest ((48 + m % 10) ∷ t)
    ∙ digits-one below (m / 10) (m % 10) t (omega arith)
    ∙ ap (λ (x : ℕ). digits below x t) (omega arith))
    n

-- a first digit 1 to 9
abbrev Leads : List ℕ → Type 0
Leads [] = ⊥
Leads (b ∷ s) = (49 ≤ b) × (b ≤ 57)

leads : (n : ℕ) (t : List ℕ) → 1 ≤ n → Leads (decimal n ++ t)
leads n =
    by_digits (λ (m : ℕ) (l : List ℕ). (t : List ℕ) → 1 ≤ m → Leads (l ++ t))
    (λ m lt t h. (omega arith, omega arith))
    (λ m ge rest t h. rw (append_assoc (decimal (m / 10)) ((48 + m % 10) ∷ []) t) (rest ((48 + m % 10) ∷ t) (omega arith)))
    n

positive-leads : (below : Bool) (s : List ℕ) → Leads s → positive below s ≡ digits below 0 s
positive-leads below [] h = absurd h
positive-leads below (b ∷ s) (lo, hi) =
    simp (le-leb 49 b lo, le-leb 48 b (omega arith), le-leb b 57 hi) (ap (λ (x : ℕ). digits below x s) (omega arith))

head-leads : (s : List ℕ) → Leads s → number_head s ≡ positive false s
head-leads [] h = absurd h
head-leads (b ∷ s) (lo, hi) = simp (ne_eqb b 48 (λ e. omega arith), ne_eqb b 45 (λ e. omega arith))

-- a number from 1 is read from its text
positive_of_text : (below : Bool) (n : ℕ) (t : List ℕ) → 1 ≤ n → None ≡ digit_head t → positive below (decimal n ++ t) ≡ some (signed below n) t
positive_of_text below n t p h =
    positive-leads below (decimal n ++ t) (leads n t p) ∙ digits_of_text below n t ∙ digits-end below n t h

head_of_text : (v : ℤ) (t : List ℕ) → None ≡ digit_head t → number_head (number_text v ++ t) ≡ some v t
head_of_text (pos zero) t h = rw (decimal_digit 0 (omega arith))
head_of_text (pos (suc n)) t h =
    head-leads (decimal (suc n) ++ t) (leads (suc n) t (omega arith)) ∙ positive_of_text false (suc n) t (omega arith) h
head_of_text (negsuc n) t h = positive_of_text true (suc n) t (omega arith) h

head_of_four : (n : ℕ) (t : List ℕ) → n ≤ 9999 → four_head (four_text (pos n) ++ t) ≡ some (pos n) t
head_of_four n t h =
    simp (digit_yes (n / 10 / 10 / 10) (omega arith), digit_yes (n / 10 / 10 % 10) (omega arith), digit_yes (n / 10 % 10) (omega arith), digit_yes (n % 10) (omega arith))
    (ap (λ (x : ℕ). some (pos x) t) (omega arith))

-- whether a line of a form may start with a digit
abbrev starts : List Item → Bool
starts [] = false
starts (byte c ∷ form) = is_digit c
starts (number ∷ form) = true
starts (four ∷ form) = true

text-starts : (form : List Item) (vs : List ℤ) → starts form ≡ false → None ≡ digit_head (line_text form vs)
text-starts [] vs h = refl
text-starts (byte c ∷ form) vs h = rw h refl
text-starts (number ∷ form) vs h = never (sym h)
text-starts (four ∷ form) vs h = never (sym h)

-- as many values as the form has, no number followed by a digit, and four digits for each four
abbrev Fit : List Item → List ℤ → Type 0
Fit [] [] = Unit
Fit [] (v ∷ vs) = ⊥
Fit (byte c ∷ form) vs = Fit form vs
Fit (number ∷ form) [] = ⊥
Fit (number ∷ form) (v ∷ vs) = (starts form ≡ false) × Fit form vs
Fit (four ∷ form) [] = ⊥
Fit (four ∷ form) (pos n ∷ vs) = (n ≤ 9999) × Fit form vs
Fit (four ∷ form) (negsuc n ∷ vs) = ⊥

values_of_text : (form : List Item) (vs : List ℤ) → Fit form vs → line_values form (line_text form vs) ≡ values vs
values_of_text [] [] f = refl
values_of_text [] (v ∷ vs) f = absurd f
values_of_text (byte c ∷ form) vs f = simp (eq-eqb c c refl) (values_of_text form vs f)
values_of_text (number ∷ form) [] f = absurd f
values_of_text (number ∷ form) (v ∷ vs) f =
    ap (and_rest (line_values form)) (head_of_text v (line_text form vs) (text-starts form vs f.0)) ∙ ap (also v) (values_of_text form vs f.1)
values_of_text (four ∷ form) [] f = absurd f
values_of_text (four ∷ form) (pos n ∷ vs) f =
    ap (and_rest (line_values form)) (head_of_four n (line_text form vs) f.0) ∙ ap (also (pos n)) (values_of_text form vs f.1)
values_of_text (four ∷ form) (negsuc n ∷ vs) f = absurd f

fit_word : (word : String) (form : List Item) (vs : List ℤ) → Fit form vs → Fit (word_items word ++ form) vs
fit_word empty form vs f = f
fit_word (c then word) form vs f = fit_word word form vs f

-- a field, and those behind it
fit-field : (key : String) (form : List Item) (v : ℤ) (vs : List ℤ) → starts form ≡ false → Fit form vs → Fit (field_items key ++ form) (v ∷ vs)
fit-field key form v vs o f =
    rw (append_assoc (word_items key) (word_items "=" ++ number ∷ []) form) (fit_word key (byte 61 ∷ number ∷ form) (v ∷ vs) (o, f))

more-starts : (keys : List String) → starts (more_items keys) ≡ false
more-starts [] = refl
more-starts (key ∷ keys) = refl

fit-more : (keys : List String) (vs : List ℤ) → length vs ≡ length keys → Fit (more_items keys) vs
fit-more [] [] h = tt
fit-more [] (v ∷ vs) h = absurd (omega arith)
fit-more (key ∷ keys) [] h = absurd (omega arith)
fit-more (key ∷ keys) (v ∷ vs) h = fit-field key (more_items keys) v vs (more-starts keys) (fit-more keys vs (omega arith))

fit-fields : (keys : List String) (vs : List ℤ) → length vs ≡ length keys → Fit (fields_form keys) vs
fit-fields [] [] h = tt
fit-fields [] (v ∷ vs) h = absurd (omega arith)
fit-fields (key ∷ keys) [] h = absurd (omega arith)
fit-fields (key ∷ keys) (v ∷ vs) h = fit-field key (more_items keys) v vs (more-starts keys) (fit-more keys vs (omega arith))

-- Reading, then writing.

-- a digit behind a number's
decimal-behind : (a d : ℕ) → 1 ≤ a → d < 10 → decimal (a * 10 + d) ≡ decimal a ++ (48 + d) ∷ []
decimal-behind a d h lt =
    let q : (a * 10 + d) / 10 ≡ a = omega arith in
    let r : (a * 10 + d) % 10 ≡ d = omega arith in
    rw (q, r) at (decimal-more (a * 10 + d) (omega arith))

-- a text is t, that of a number from 1, and the rest
record Written (below : Bool) (t : List ℕ) (v : ℤ) (rest : List ℕ) : Type 0 where
  total : ℕ
  above : 1 ≤ total
  is : v ≡ signed below total
  same : t ≡ decimal total ++ rest

digits-back : (below : Bool) (n : ℕ) (s : List ℕ) (v : ℤ) (rest : List ℕ) → 1 ≤ n → digits below n s ≡ some v rest → Written below (decimal n ++ s) v rest
digits-back below n [] v rest p h = record { total = n; above = p; is = cc; same = cc }
digits-back below n (b ∷ s) v rest p h = go (is_digit b) refl h (λ e. digits-back below (n * 10 + (b - 48)) s v rest (omega arith) e)
  where
    go : (t : Bool) → is_digit b ≡ t → (when t then digits below (n * 10 + (b - 48)) s else some (signed below n) (b ∷ s)) ≡ some v rest
        → (digits below (n * 10 + (b - 48)) s ≡ some v rest → Written below (decimal (n * 10 + (b - 48)) ++ s) v rest) → Written below (decimal n ++ b ∷ s) v rest
    go true e h more =
        let r = more h in
        let q = digit-bounds b e in
        let d : 48 + (b - 48) ≡ b = omega arith in
        let l : decimal (n * 10 + (b - 48)) ≡ decimal n ++ b ∷ [] = rw d at (decimal-behind n (b - 48) p (omega arith)) in
        record { total = r.total; above = r.above; is = r.is; same = sym (append_assoc (decimal n) (b ∷ []) s) ∙ ap (λ (t : List ℕ). t ++ s) (sym l) ∙ r.same }
    go false e h more = record { total = n; above = p; is = cc; same = cc }

positive_back : (below : Bool) (s : List ℕ) (v : ℤ) (rest : List ℕ) → positive below s ≡ some v rest → Written below s v rest
positive_back below [] v rest h = clash (cc)
positive_back below (b ∷ s) v rest h = go (within 49 57 b) refl h
  where
    go : (t : Bool) → within 49 57 b ≡ t → (when t then digits below (b - 48) s else none) ≡ some v rest → Written below (b ∷ s) v rest
    go false e h = clash (cc)
    go true e h =
        let q = both (leb 49 b) (leb b 57) e in
        let lo : 49 ≤ b = leb-true 49 b q.0 in
        let hi : b ≤ 57 = leb-true b 57 q.1 in
        let r = digits-back below (b - 48) s v rest (omega arith) h in
        let d : 48 + (b - 48) ≡ b = omega arith in
        let l : decimal (b - 48) ≡ b ∷ [] = rw d at (decimal_digit (b - 48) (omega arith)) in
        record { total = r.total; above = r.above; is = r.is; same = ap (λ (t : List ℕ). t ++ s) (sym l) ∙ r.same }

minus-text : (n : ℕ) → 1 ≤ n → number_text (signed true n) ≡ 45 ∷ decimal n
minus-text zero h = absurd (omega arith)
minus-text (suc n) h = refl

-- what is read as a number is that number's text
text_of_head : (s : List ℕ) (v : ℤ) (rest : List ℕ) → number_head s ≡ some v rest → s ≡ number_text v ++ rest
text_of_head [] v rest h = clash (cc)
text_of_head (b ∷ s) v rest h = go (eqb b 48) (eqb b 45) refl refl h
  where
    go : (t u : Bool) → eqb b 48 ≡ t → eqb b 45 ≡ u
        → (when t then some (pos 0) s else (when u then positive true s else positive false (b ∷ s))) ≡ some v rest → b ∷ s ≡ number_text v ++ rest
    go true u e f h =
        let ev : pos 0 ≡ v = cc in
        let es : s ≡ rest = cc in
        rw (← ev, ← es, decimal_digit 0 (omega arith)) (ap (λ (x : ℕ). x ∷ s) (eqb-true b 48 e))
    go false true e f h =
        let r = positive_back true s v rest h in
        rw (r.is, minus-text r.total r.above, eqb-true b 45 f) (ap (λ (l : List ℕ). 45 ∷ l) r.same)
    go false false e f h = let r = positive_back false (b ∷ s) v rest h in rw r.is r.same

four_same : {a b c d a' b' c' d' : ℕ} {s t : List ℕ} → a ≡ a' → b ≡ b' → c ≡ c' → d ≡ d' → s ≡ t → a ∷ b ∷ c ∷ d ∷ s ≡ a' ∷ b' ∷ c' ∷ d' ∷ t
four_same p q r u v = cc

-- four digits that are read are their number's text
text_of_four : (s : List ℕ) (v : ℤ) (rest : List ℕ) → four_head s ≡ some v rest → s ≡ four_text v ++ rest
text_of_four [] v rest h = clash (cc)
text_of_four (a ∷ []) v rest h = clash (cc)
text_of_four (a ∷ b ∷ []) v rest h = clash (cc)
text_of_four (a ∷ b ∷ c ∷ []) v rest h = clash (cc)
text_of_four (a ∷ b ∷ c ∷ d ∷ s) v rest h = go (four_digits a b c d) refl h
  where
    go : (t : Bool) → four_digits a b c d ≡ t → (when t then some (pos (four_number a b c d)) s else none) ≡ some v rest → a ∷ b ∷ c ∷ d ∷ s ≡ four_text v ++ rest
    go false e h = clash (cc)
    go true e h =
        let f = four-bounds a b c d e in
        let n : ℕ = four_number a b c d in
        let ea : a ≡ 48 + n / 10 / 10 / 10 = omega arith in
        let eb : b ≡ 48 + n / 10 / 10 % 10 = omega arith in
        let ec : c ≡ 48 + n / 10 % 10 = omega arith in
        let ed : d ≡ 48 + n % 10 = omega arith in
        let es : s ≡ rest = cc in
        let ev : pos n ≡ v = cc in
        four_same ea eb ec ed es ∙ ap (λ (w : ℤ). four_text w ++ rest) ev

-- the first value of a line, and the others
abbrev Back : List Item → Type 0
Back form = (rest : List ℕ) (ws : List ℤ) → line_values form rest ≡ values ws → rest ≡ line_text form ws

record Values-of (write : ℤ → List ℕ) (form : List Item) (s : List ℕ) (vs : List ℤ) : Type 0 where
  value : ℤ
  others : List ℤ
  first : vs ≡ value ∷ others
  text : s ≡ write value ++ line_text form others

-- where what is read at the head of a text is written as it stood there
first-value : (head : List ℕ → Head) (write : ℤ → List ℕ) → ((s : List ℕ) (v : ℤ) (rest : List ℕ) → head s ≡ some v rest → s ≡ write v ++ rest)
    → (form : List Item) (s : List ℕ) (vs : List ℤ) → and_rest (line_values form) (head s) ≡ values vs → Back form → Values-of write form s vs
first-value head write same form s vs h more = go (head s) refl h
  where
    rest_of : (v : ℤ) (rest : List ℕ) (w : Values) → head s ≡ some v rest → line_values form rest ≡ w → also v w ≡ values vs → Values-of write form s vs
    rest_of v rest other e f g = clash (cc)
    rest_of v rest (values ws) e f g = record { value = v; others = ws; first = cc; text = same s v rest e ∙ ap (λ (l : List ℕ). write v ++ l) (more rest ws f) }

    go : (r : Head) → head s ≡ r → and_rest (line_values form) r ≡ values vs → Values-of write form s vs
    go none e h = clash (cc)
    go (some v rest) e h = rest_of v rest (line_values form rest) e refl h

-- what is read as a line of a form is that form's text of the values
text_of_values : (form : List Item) (s : List ℕ) (vs : List ℤ) → line_values form s ≡ values vs → s ≡ line_text form vs
text_of_values [] [] vs h = refl
text_of_values [] (b ∷ s) vs h = clash (cc)
text_of_values (byte c ∷ form) [] vs h = clash (cc)
text_of_values (byte c ∷ form) (b ∷ s) vs h = go (eqb b c) refl h (λ e. text_of_values form s vs e)
  where
    go : (t : Bool) → eqb b c ≡ t → (when t then line_values form s else other) ≡ values vs → (line_values form s ≡ values vs → s ≡ line_text form vs) → b ∷ s ≡ c ∷ line_text form vs
    go true e h more = let f : b ≡ c = eqb-true b c e in let g = more h in cc
    go false e h more = clash (cc)
text_of_values (number ∷ form) s vs h =
    let p = first-value number_head number_text text_of_head form s vs h (λ rest ws e. text_of_values form rest ws e) in
    rw p.first p.text
text_of_values (four ∷ form) s vs h =
    let p = first-value four_head four_text text_of_four form s vs h (λ rest ws e. text_of_values form rest ws e) in
    rw p.first p.text

pub only_text : OneText
only_text = record {
  taken = text_of_values;
  fields = λ keys vs h. values_of_text (fields_form keys) vs (fit-fields keys vs h);
  commands = λ word. rw append-nil at (values_of_text (word_items word ++ []) [] (fit_word word [] [] tt));
  codes = λ word n h. values_of_text (word_items word ++ four ∷ []) (pos n ∷ []) (fit_word word (four ∷ []) (pos n ∷ []) (h, tt));
}
