-- What an input prints: a line of text that has begun, and one that is cut. Assumes nothing.
use mathlib.Core.Path.{◌≡◌, refl, sym, ap, ◌∙◌}
use mathlib.Core.Bool.{true, false}
use mathlib.Core.List.{List, [], ◌∷◌, ◌++◌, append_assoc, append-nil}
use Prim.Native.Nat.{ℕ, zero, suc, ◌≤◌}
use native.Mathlib.Omega.{arith}
use lib.Dec.{eqb, leb}
use lib.ListN.{length, take, drop, length-append}
use lib.Seq.{take_all, take-take, take-append-le, length-take-le}
use borrow.Author.Tests.{leb-true, leb-false, lt-leb}
use Rattle.laws.proofs.Tests.{by_cases}
use Rattle.decimal.specs.Bytes.{lf}
use Rattle.line.specs.State.{State}
use Rattle.text.specs.Read.{read_line, longest_line}
use Rattle.std.specs.Prelude.{Option}
use Rattle.text.specs.declared.Read.{Read}
use Rattle.controller.specs.Serve.{answer_to, state_after}
use Rattle.controller.specs.Input.{last_line, lines_from, lines_of, answers_to, printed}
use Rattle.controller.proofs.Lines.{lines_end, lines-lf, lines_other, lines-closed, answers_none, answers_one}
use Rattle.blocks.specs.Lines.{line_length, NoLf}
use Rattle.blocks.specs.Left.{kept_bytes, at_end}
use Rattle.blocks.proofs.Ends.{at-lf, before-lf, no_more}

-- ---- the lines, where some bytes of a line stand before

-- no LF
no_line : (before bs more : List ℕ) → NoLf bs → lines_from before (bs ++ more) ≡ lines_from (before ++ bs) more
no_line before [] more h = rw (append-nil before) refl
no_line before (b ∷ s) more h =
    by_cases (eqb b lf)
    (λ y. absurd (omega (arith, h, at-lf b s y)))
    (λ n.
    lines_other before b (s ++ more) n
    ∙ no_line (before ++ b ∷ []) s more (omega (arith, h, before-lf b s n))
    ∙ ap (λ (t : List ℕ). lines_from t more) (append_assoc before (b ∷ []) s))

pub prints-none : (s : State) → printed s [] ≡ []
prints-none s = ap (answers_to s) (lines_end []) ∙ answers_none s

-- ---- a line that has begun has no LF, nor has its front
behind-lf : (b : ℕ) (t : List ℕ) → NoLf (b ∷ t) → (eqb b lf ≡ false) × NoLf t
behind-lf b t h =
    by_cases (eqb b lf)
    (λ y. absurd (omega (arith, h, at-lf b t y)))
    (λ n. (n, omega (arith, h, before-lf b t n)))

front_no_lf : (k : ℕ) (t : List ℕ) → NoLf t → NoLf (take k t)
front_no_lf zero t h = no_more
front_no_lf (suc k) [] h = h
front_no_lf (suc k) (b ∷ t) h = let r = behind-lf b t h in before-lf b (take k t) r.0 ∙ ap suc (front_no_lf k t r.1)

-- ---- what is kept of it stands for all of it: a line over the longest says nothing, whatever it holds
short : (t : List ℕ) → leb (length t) kept_bytes ≡ true → take kept_bytes t ≡ t
short t y = take_all kept_bytes t (leb-true (length t) kept_bytes y)

long : (t : List ℕ) → leb (length t) kept_bytes ≡ false → kept_bytes ≤ length t
long t n = let h = leb-false (length t) kept_bytes n in omega (arith, h)

cut-text : (t : List ℕ) → read_line (take kept_bytes t) ≡ read_line t
cut-text t =
    by_cases (leb (length t) kept_bytes)
    (λ y. ap read_line (short t y))
    (λ n.
    let h = long t n in
    let over : leb (length t) longest_line ≡ false = lt-leb (length t) longest_line (omega (arith, h)) in
    let whole : length (take kept_bytes t) ≡ kept_bytes = length-take-le kept_bytes t h in
    rw (whole, over) refl)

cut-more : (t : List ℕ) (b : ℕ) → take kept_bytes (take kept_bytes t ++ b ∷ []) ≡ take kept_bytes (t ++ b ∷ [])
cut-more t b =
    by_cases (leb (length t) kept_bytes)
    (λ y. ap (λ (s : List ℕ). take kept_bytes (s ++ b ∷ [])) (short t y))
    (λ n.
    let h = long t n in
    let whole : length (take kept_bytes t) ≡ kept_bytes = length-take-le kept_bytes t h in
    take-append-le kept_bytes (take kept_bytes t) (b ∷ []) (omega (arith, whole)) ∙ take-take kept_bytes kept_bytes t (omega arith) ∙ sym (take-append-le kept_bytes t (b ∷ []) h))

-- a line that says the same prints the same
same-said : (s : State) (l k : List ℕ) (ls : List (List ℕ)) → read_line l ≡ read_line k → answers_to s (l ∷ ls) ≡ answers_to s (k ∷ ls)
same-said s l k ls e = answers_one s l ls ∙ ap (λ (r : Option Read). answer_to s r ++ answers_to (state_after s r) ls) e ∙ sym (answers_one s k ls)

cut-last : (s : State) (t : List ℕ) → answers_to s (last_line (take kept_bytes t)) ≡ answers_to s (last_line t)
cut-last s [] = refl
cut-last s (b ∷ t) = same-said s (take kept_bytes (b ∷ t)) (b ∷ t) [] (cut-text (b ∷ t))

cut-prints : (s : State) (more t : List ℕ) → answers_to s (lines_from (take kept_bytes t) more) ≡ answers_to s (lines_from t more)
cut-prints s [] t = ap (answers_to s) (lines_end (take kept_bytes t)) ∙ cut-last s t ∙ ap (answers_to s) (sym (lines_end t))
cut-prints s (b ∷ more) t =
    by_cases (eqb b lf)
    (λ y.
    ap (answers_to s) (lines-lf (take kept_bytes t) b more y) ∙ same-said s (take kept_bytes t) t (lines_of more) (cut-text t)
    ∙ ap (answers_to s) (sym (lines-lf t b more y)))
    (λ n.
    ap (answers_to s) (lines_other (take kept_bytes t) b more n)
    ∙ sym (cut-prints s more (take kept_bytes t ++ b ∷ []))
    ∙ ap (λ (u : List ℕ). answers_to s (lines_from u more)) (cut-more t b)
    ∙ cut-prints s more (t ++ b ∷ [])
    ∙ ap (answers_to s) (sym (lines_other t b more n)))

pub prints-kept : (s : State) (left more : List ℕ) → NoLf left → printed s (left ++ more) ≡ printed s (take kept_bytes left ++ more)
prints-kept s left more h =
    ap (answers_to s) (no_line [] left more h) ∙ sym (cut-prints s more left)
    ∙ ap (answers_to s) (sym (no_line [] (take kept_bytes left) more (front_no_lf kept_bytes left h)))

-- ---- the end of the input
pub prints-closed : (s : State) (held : List ℕ) → NoLf held → printed s (held ++ []) ≡ printed s (held ++ at_end held)
prints-closed s [] h = refl
prints-closed s (b ∷ t) h =
    ap (answers_to s) (no_line [] (b ∷ t) [] h ∙ sym (lines-closed b t) ∙ sym (no_line [] (b ∷ t) (lf ∷ []) h))

pub kept_no_lf : (left : List ℕ) → NoLf left → NoLf (take kept_bytes left)
kept_no_lf left h = front_no_lf kept_bytes left h

lf-within : (l : List ℕ) → line_length (l ++ lf ∷ []) ≤ length l
lf-within [] = rw (at-lf lf [] refl) (omega arith)
lf-within (b ∷ l) =
    by_cases (eqb b lf)
    (λ y. rw (at-lf b (l ++ lf ∷ []) y) (omega arith))
    (λ n. let h = lf-within l in rw (before-lf b (l ++ lf ∷ []) n) (omega (arith, h)))

gone : (k : ℕ) → drop {A = ℕ} k [] ≡ []
gone zero = refl
gone (suc k) = refl

-- behind an LF there is nothing left
behind-end : (l : List ℕ) (k : ℕ) → NoLf (drop k (l ++ lf ∷ [])) → drop k (l ++ lf ∷ []) ≡ []
behind-end [] zero h = let n = at-lf lf [] refl in absurd (omega (arith, h, n))
behind-end [] (suc k) h = gone k
behind-end (b ∷ l) zero h =
    let n = lf-within (b ∷ l) in
    let m = length-append (b ∷ l) (lf ∷ []) in
    absurd (omega (arith, h, n, m))
behind-end (b ∷ l) (suc k) h = behind-end l k h

pub ended-closed : (held : List ℕ) (k : ℕ) → NoLf (drop k (held ++ at_end held)) → drop k (held ++ at_end held) ≡ []
ended-closed [] k h = gone k
ended-closed (b ∷ t) k h = behind-end (b ∷ t) k h
