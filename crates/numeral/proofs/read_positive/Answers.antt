-- `read_positive` reads the first digit, 1 to 9, and those behind it. Assumes nothing.
use mathlib.Core.Path.{sym, ◌∙◌}
use Rattle.numeral.proofs.Heads.{digit-here, positive-more}
use Rattle.numeral.proofs.read_positive.Goals as goal

pub returns : goal.returns
returns c =
    let a = c.args in
    let d = c.in_ok-first.first in
    c.read_digits.ensures ∙ positive-more a.line.now a.at d a.below (digit-here a.line.now a.at d (sym c.in_ok-first.was ∙ c.digit_at.ensures)) c.if-first-eq0.false
