-- What an input prints that begins with a whole line of text. Assumes nothing.
use mathlib.Core.Path.{◌≡◌, ap, ◌∙◌}
use mathlib.Core.List.{List, [], ◌∷◌, ◌++◌, append_assoc, append-nil}
use Prim.Native.Nat.{ℕ, suc, ◌+◌, ◌<◌}
use native.Mathlib.Omega.{arith}
use lib.Dec.{eqb}
use lib.ListN.{length, take, drop}
use Rattle.laws.proofs.Tests.{by_cases}
use Rattle.decimal.specs.Bytes.{lf}
use Rattle.line.specs.State.{State}
use Rattle.text.specs.Read.{read_line}
use Rattle.controller.specs.Serve.{answer_to, state_after}
use Rattle.controller.specs.Input.{lines_from, lines_of, answers_to, printed}
use Rattle.controller.proofs.Lines.{lines-lf, lines_other, answers_one}
use Rattle.blocks.specs.Lines.{line_length}
use Rattle.blocks.proofs.Ends.{at-lf, before-lf, no_more}

-- a line up to its LF, where some bytes of it stand before
pub whole-line : (before bs more : List ℕ) → line_length bs < length bs → lines_from before (bs ++ more) ≡ (before ++ take (line_length bs) bs) ∷ lines_of (drop (line_length bs + 1) bs ++ more)
whole-line before [] more h = absurd (omega (arith, h, no_more))
whole-line before (b ∷ s) more h =
    by_cases (eqb b lf)
    (λ y. rw (at-lf b s y, append-nil before) (lines-lf before b (s ++ more) y))
    (λ n.
    let size : suc (line_length s) + 1 ≡ suc (line_length s + 1) = omega arith in
    rw (before-lf b s n, size) (
    lines_other before b (s ++ more) n
    ∙ whole-line (before ++ b ∷ []) s more (omega (arith, h, before-lf b s n))
    ∙ ap (λ (t : List ℕ). t ∷ lines_of (drop (line_length s + 1) s ++ more)) (append_assoc before (b ∷ []) (take (line_length s) s))))

pub prints-line : (s : State) (bs more : List ℕ) → line_length bs < length bs
    → printed s (bs ++ more) ≡ answer_to s (read_line (take (line_length bs) bs)) ++ printed (state_after s (read_line (take (line_length bs) bs))) (drop (line_length bs + 1) bs ++ more)
prints-line s bs more h = ap (answers_to s) (whole-line [] bs more h) ∙ answers_one s (take (line_length bs) bs) (lines_of (drop (line_length bs + 1) bs ++ more))
