-- `read_digits` keeps, at each digit, what the digits to come would make of those that were read. Assumes nothing.
use borrow.Author.Rules.{rules}
use mathlib.Core.Path.{sym, ◌∙◌}
use Rattle.numeral.proofs.Heads.{digit-here, digits_step}
use Rattle.numeral.proofs.read_digits.Goals as goal

pub loop-digit-preserved : goal.loop-digit-preserved
loop-digit-preserved c =
    let l = c.loop-digit in
    let line = c.args.line.now in
    (rw c.min-size.ensures (digits_step line l.next l.size c.args.below c.in-Some.digit (digit-here line l.next c.in-Some.digit (sym c.in-Some.is ∙ c.digit_at.ensures))) ∙ l.invariant.0, search rules)
