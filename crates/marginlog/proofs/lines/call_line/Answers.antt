-- `call_line` prints what the call answers. Assumes nothing.
use mathlib.Core.Path.{◌≡◌, ◌∙◌}
use Prim.Native.Nat.{ℕ}
use mathlib.Core.List.{List}
use lib.IntN.{ℤ}
use Rattle.settings.specs.declared.Settings.{Settings}
use mathlib.Core.Bool.{Bool, false, ◌&&◌, not}
use lib.ListN.{length}
use Rattle.settings.specs.Settings.{is_code}
use Rattle.possible.specs.declared.Refusal.TheVariants.{Value}
use Rattle.possible.specs.Answer.{count_fits, refusal_of}
use Rattle.marginlog.specs.Lines.{refusal_at}
use Rattle.marginlog.proofs.Refusing.{code-refused, as_the_call, refused-line, possible-line}
use Rattle.marginlog.proofs.lines.call_line.Goals as goal

-- the code alone is refused, or it is the call's own answer that counts
tested : {t u v : Bool} (xs : List ℤ) (code : ℕ) → t ≡ count_fits (length xs) → u ≡ is_code code → t && not u ≡ v → count_fits (length xs) && not (is_code code) ≡ v
tested xs code d e h = rw (← d, ← e) h

pub returns-then-count_fits-is_code : goal.returns-then-count_fits-is_code
returns-then-count_fits-is_code c =
    let a = c.args in
    let refused = code-refused a.samples.now a.e a.code a.s (tested a.samples.now a.code c.count_fits.ensures c.is_code.ensures c.if-count_fits-is_code.true) in
    refused-line a.samples.now a.e a.code a.s Value refused _ _ _ (rw c.number.ensures at c.refuse.ensures)

-- no code is refused: the refusal is the call's
own : {t u : Bool} (xs : List ℤ) (e code : ℕ) (s : Settings) → t ≡ count_fits (length xs) → u ≡ is_code code → t && not u ≡ false
    → refusal_at xs e code s ≡ refusal_of xs e s
own xs e code s d g h = as_the_call xs e code s (tested xs code d g h)

pub returns-in-Err : goal.returns-in-Err
returns-in-Err c =
    let a = c.args in
    let r = rw c.in-Err.is at c.possible_outcomes.ensures in
    refused-line a.samples.now a.e a.code a.s _ (own a.samples.now a.e a.code a.s c.count_fits.ensures c.is_code.ensures c.if-count_fits-is_code.false ∙ r) _ _ _ (rw c.number-in-Err.ensures at c.refuse-in-Err.ensures)

pub returns-in-Ok : goal.returns-in-Ok
returns-in-Ok c =
    let a = c.args in
    let r = rw c.in-Ok.is at c.possible_outcomes.ensures in
    possible-line a.samples.now a.e a.code a.s _ (own a.samples.now a.e a.code a.s c.count_fits.ensures c.is_code.ensures c.if-count_fits-is_code.false ∙ r.0) r.1 _ _ _ c.put_outcomes.ensures
