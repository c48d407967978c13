-- The complete lines of a block: the first one and those behind it, or none. Assumes nothing.
use mathlib.Core.Path.{◌≡◌, refl, ◌∙◌}
use mathlib.Core.Bool.{cond, true, false}
use mathlib.Core.List.{List, [], ◌∷◌, append-nil}
use Prim.Native.Nat.{ℕ, suc, ◌+◌, ◌<◌}
use native.Mathlib.Omega.{arith}
use lib.Dec.{eqb}
use lib.ListN.{length, take, drop}
use Rattle.std.specs.Prelude.{count_by}
use Rattle.std.proofs.lemmas.List.Sums.{sum_by-cons}
use Rattle.laws.proofs.Tests.{by_cases}
use Rattle.decimal.specs.Bytes.{lf}
use Rattle.controller.specs.Input.{lines_of}
use Rattle.blocks.specs.Lines.{line_length, NoLf}
use Rattle.blocks.proofs.Ends.{at-lf, before-lf, no_more}
use Rattle.sessions.specs.Sessions.{complete_lines}
use Rattle.sessions.proofs.Prints.{whole-line}

abbrev lf_count : List ℕ → ℕ
lf_count bs = count_by (λ b. eqb b lf) bs

count-lf : (b : ℕ) (s : List ℕ) → eqb b lf ≡ true → lf_count (b ∷ s) ≡ suc (lf_count s)
count-lf b s y = sum_by-cons (λ x. cond (eqb x lf) 1 0) b s ∙ rw y (omega arith)

count_other : (b : ℕ) (s : List ℕ) → eqb b lf ≡ false → lf_count (b ∷ s) ≡ lf_count s
count_other b s n = sum_by-cons (λ x. cond (eqb x lf) 1 0) b s ∙ rw n (omega arith)

count_none : (bs : List ℕ) → NoLf bs → lf_count bs ≡ 0
count_none [] h = refl
count_none (b ∷ s) h =
    by_cases (eqb b lf)
    (λ y. absurd (omega (arith, h, at-lf b s y)))
    (λ n. count_other b s n ∙ count_none s (omega (arith, h, before-lf b s n)))

count_one : (bs : List ℕ) → line_length bs < length bs → lf_count bs ≡ suc (lf_count (drop (line_length bs + 1) bs))
count_one [] h = absurd (omega (arith, h, no_more))
count_one (b ∷ s) h =
    by_cases (eqb b lf)
    (λ y. rw (at-lf b s y) (count-lf b s y))
    (λ n.
    let size : suc (line_length s) + 1 ≡ suc (line_length s + 1) = omega arith in
    rw (before-lf b s n, size) (count_other b s n ∙ count_one s (omega (arith, h, before-lf b s n))))

pub complete_none : (bs : List ℕ) → NoLf bs → complete_lines bs ≡ []
complete_none bs h = rw (count_none bs h) refl

pub complete_one : (bs : List ℕ) → line_length bs < length bs → complete_lines bs ≡ take (line_length bs) bs ∷ complete_lines (drop (line_length bs + 1) bs)
complete_one bs h =
    let lines : lines_of bs ≡ take (line_length bs) bs ∷ lines_of (drop (line_length bs + 1) bs) = rw (append-nil bs, append-nil (drop (line_length bs + 1) bs)) at (whole-line [] bs [] h) in
    rw (count_one bs h, lines) refl
