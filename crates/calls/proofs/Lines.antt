-- What the lines of an input say: one that is whole, one that has begun, and one that is cut. Assumes nothing.
use mathlib.Core.Path.{◌≡◌, refl, sym, ap, ◌∙◌}
use mathlib.Core.Bool.{true, false}
use mathlib.Core.List.{List, [], ◌∷◌, ◌++◌, map, append_assoc, append-nil}
use Prim.Native.Nat.{ℕ, zero, suc, ◌+◌, ◌≤◌, ◌<◌}
use native.Mathlib.Omega.{arith}
use lib.Dec.{eqb, leb}
use lib.ListN.{length, take, drop, length-append}
use lib.Seq.{take_all, take-take, take-append-le, length-take-le}
use borrow.Author.Tests.{leb-true, leb-false, lt-leb}
use Rattle.laws.specs.Choice.{when◌then◌else◌}
use Rattle.laws.proofs.Tests.{by_cases}
use Rattle.decimal.specs.Bytes.{lf}
use Rattle.text.specs.Read.{longest_line}
use Rattle.controller.specs.Input.{last_line, lines_from, lines_of}
use Rattle.controller.proofs.Lines.{lines_end, lines-lf, lines_other, lines-closed}
use Rattle.blocks.specs.Lines.{line_length, NoLf}
use Rattle.blocks.specs.Left.{kept_bytes, at_end}
use Rattle.blocks.proofs.Ends.{at-lf, before-lf, no_more}
use Rattle.std.specs.Prelude.{Option}
use Rattle.calls.specs.Service.{Service}
use Rattle.calls.specs.Traces.{entries_of}

-- a line up to its LF
whole-line : (before bs more : List ℕ) → line_length bs < length bs
    → lines_from before (bs ++ more) ≡ (before ++ take (line_length bs) bs) ∷ lines_of (drop (line_length bs + 1) bs ++ more)
whole-line before [] more h = absurd (omega (arith, h, no_more))
whole-line before (b ∷ s) more h =
    by_cases (eqb b lf)
    (λ y. rw (at-lf b s y, append-nil before) (lines-lf before b (s ++ more) y))
    (λ n.
    let size : suc (line_length s) + 1 ≡ suc (line_length s + 1) = omega arith in
    rw (before-lf b s n, size) (
    lines_other before b (s ++ more) n
    ∙ whole-line (before ++ b ∷ []) s more (omega (arith, h, before-lf b s n))
    ∙ ap (λ (t : List ℕ). t ∷ lines_of (drop (line_length s + 1) s ++ more)) (append_assoc before (b ∷ []) (take (line_length s) s))))

-- no LF
no_line : (before bs more : List ℕ) → NoLf bs → lines_from before (bs ++ more) ≡ lines_from (before ++ bs) more
no_line before [] more h = rw (append-nil before) refl
no_line before (b ∷ s) more h =
    by_cases (eqb b lf)
    (λ y. absurd (omega (arith, h, at-lf b s y)))
    (λ n.
    lines_other before b (s ++ more) n
    ∙ no_line (before ++ b ∷ []) s more (omega (arith, h, before-lf b s n))
    ∙ ap (λ (t : List ℕ). lines_from t more) (append_assoc before (b ∷ []) s))

-- ---- what is kept of a line

short : (t : List ℕ) → leb (length t) kept_bytes ≡ true → take kept_bytes t ≡ t
short t y = take_all kept_bytes t (leb-true (length t) kept_bytes y)

long : (t : List ℕ) → leb (length t) kept_bytes ≡ false → kept_bytes ≤ length t
long t n = let h = leb-false (length t) kept_bytes n in omega (arith, h)

-- a line over the longest reads as one thing, whatever it holds
pub cut_read : {A : Type 0} (read : List ℕ → A) (other : A) (t : List ℕ)
    → (when leb (length (take kept_bytes t)) longest_line then read (take kept_bytes t) else other) ≡ (when leb (length t) longest_line then read t else other)
cut_read read other t =
    by_cases (leb (length t) kept_bytes)
    (λ y. rw (short t y) refl)
    (λ n.
    let h = long t n in
    let over : leb (length t) longest_line ≡ false = lt-leb (length t) longest_line (omega (arith, h)) in
    let whole : length (take kept_bytes t) ≡ kept_bytes = length-take-le kept_bytes t h in
    rw (whole, over) refl)

cut-more : (t : List ℕ) (b : ℕ) → take kept_bytes (take kept_bytes t ++ b ∷ []) ≡ take kept_bytes (t ++ b ∷ [])
cut-more t b =
    by_cases (leb (length t) kept_bytes)
    (λ y. ap (λ (s : List ℕ). take kept_bytes (s ++ b ∷ [])) (short t y))
    (λ n.
    let h = long t n in
    let whole : length (take kept_bytes t) ≡ kept_bytes = length-take-le kept_bytes t h in
    take-append-le kept_bytes (take kept_bytes t) (b ∷ []) (omega (arith, whole)) ∙ take-take kept_bytes kept_bytes t (omega arith) ∙ sym (take-append-le kept_bytes t (b ∷ []) h))

-- ---- a line that has begun has no LF, nor has its front
behind-lf : (b : ℕ) (t : List ℕ) → NoLf (b ∷ t) → (eqb b lf ≡ false) × NoLf t
behind-lf b t h =
    by_cases (eqb b lf)
    (λ y. absurd (omega (arith, h, at-lf b t y)))
    (λ n. (n, omega (arith, h, before-lf b t n)))

front_no_lf : (k : ℕ) (t : List ℕ) → NoLf t → NoLf (take k t)
front_no_lf zero t h = no_more
front_no_lf (suc k) [] h = h
front_no_lf (suc k) (b ∷ t) h = let r = behind-lf b t h in before-lf b (take k t) r.0 ∙ ap suc (front_no_lf k t r.1)

-- ---- behind the end

lf-within : (l : List ℕ) → line_length (l ++ lf ∷ []) ≤ length l
lf-within [] = rw (at-lf lf [] refl) (omega arith)
lf-within (b ∷ l) =
    by_cases (eqb b lf)
    (λ y. rw (at-lf b (l ++ lf ∷ []) y) (omega arith))
    (λ n. let h = lf-within l in rw (before-lf b (l ++ lf ∷ []) n) (omega (arith, h)))

gone : (k : ℕ) → drop {A = ℕ} k [] ≡ []
gone zero = refl
gone (suc k) = refl

-- behind an LF there is nothing left
behind-end : (l : List ℕ) (k : ℕ) → NoLf (drop k (l ++ lf ∷ [])) → drop k (l ++ lf ∷ []) ≡ []
behind-end [] zero h = let n = at-lf lf [] refl in absurd (omega (arith, h, n))
behind-end [] (suc k) h = gone k
behind-end (b ∷ l) zero h =
    let n = lf-within (b ∷ l) in
    let m = length-append (b ∷ l) (lf ∷ []) in
    absurd (omega (arith, h, n, m))
behind-end (b ∷ l) (suc k) h = behind-end l k h

pub ended-closed : (held : List ℕ) (k : ℕ) → NoLf (drop k (held ++ at_end held)) → drop k (held ++ at_end held) ≡ []
ended-closed [] k h = gone k
ended-closed (b ∷ t) k h = behind-end (b ∷ t) k h

-- ---- what the lines say

module _ (p : Service) where
  -- where some bytes of a line stand before
  abbrev entries_from : List ℕ → List ℕ → List (Option p.Entry)
  entries_from before more = map p.reads (lines_from before more)

  pub first_entry : (bs more : List ℕ) → line_length bs < length bs
      → entries_of p (bs ++ more) ≡ p.reads (take (line_length bs) bs) ∷ entries_of p (drop (line_length bs + 1) bs ++ more)
  first_entry bs more h = ap (map p.reads) (whole-line [] bs more h)

  pub no_entry : entries_of p [] ≡ []
  no_entry = ap (map p.reads) (lines_end [])

  -- what is kept of a line stands for all of it
  module _ (cut : (t : List ℕ) → p.reads (take kept_bytes t) ≡ p.reads t) where
    cut-last : (t : List ℕ) → map p.reads (last_line (take kept_bytes t)) ≡ map p.reads (last_line t)
    cut-last [] = refl
    cut-last (b ∷ t) = ap (λ (e : Option p.Entry). e ∷ []) (cut (b ∷ t))

    cut-entries : (more t : List ℕ) → entries_from (take kept_bytes t) more ≡ entries_from t more
    cut-entries [] t = ap (map p.reads) (lines_end (take kept_bytes t)) ∙ cut-last t ∙ ap (map p.reads) (sym (lines_end t))
    cut-entries (b ∷ more) t =
        by_cases (eqb b lf)
        (λ y.
        ap (map p.reads) (lines-lf (take kept_bytes t) b more y) ∙ ap (λ (e : Option p.Entry). e ∷ entries_of p more) (cut t)
        ∙ ap (map p.reads) (sym (lines-lf t b more y)))
        (λ n.
        ap (map p.reads) (lines_other (take kept_bytes t) b more n)
        ∙ sym (cut-entries more (take kept_bytes t ++ b ∷ []))
        ∙ ap (λ (u : List ℕ). entries_from u more) (cut-more t b)
        ∙ cut-entries more (t ++ b ∷ [])
        ∙ ap (map p.reads) (sym (lines_other t b more n)))

    pub kept-entries : (left more : List ℕ) → NoLf left → entries_of p (take kept_bytes left ++ more) ≡ entries_of p (left ++ more)
    kept-entries left more h =
        ap (map p.reads) (no_line [] (take kept_bytes left) more (front_no_lf kept_bytes left h)) ∙ cut-entries more left
        ∙ ap (map p.reads) (sym (no_line [] left more h))

    closed-entries : (held : List ℕ) → NoLf held → entries_of p (held ++ at_end held) ≡ entries_of p (held ++ [])
    closed-entries [] h = refl
    closed-entries (b ∷ t) h =
        ap (map p.reads) (no_line [] (b ∷ t) (lf ∷ []) h ∙ lines-closed b t ∙ sym (no_line [] (b ∷ t) [] h))

    pub ended-entries : (left : List ℕ) → NoLf left → entries_of p (take kept_bytes left ++ at_end (take kept_bytes left)) ≡ entries_of p (left ++ [])
    ended-entries left h = closed-entries (take kept_bytes left) (front_no_lf kept_bytes left h) ∙ kept-entries left [] h
