-- `read_number` goes by the first byte: 0, a minus sign, or another. Assumes nothing.
use mathlib.Core.Path.{sym, ◌∙◌}
use Rattle.numeral.proofs.Heads.{byte-here, number_zero, number-minus}
use Rattle.numeral.proofs.read_number.Goals as goal

pub returns-then-byte_at : goal.returns-then-byte_at
returns-then-byte_at c = number_zero _ _ (byte-here 48 c.args.line.now c.args.at (sym c.byte_at.ensures ∙ c.if-byte_at.true))

pub returns-then-byte_at-2 : goal.returns-then-byte_at-2
returns-then-byte_at-2 c = c.read_positive.ensures ∙ number-minus _ _ (byte-here 45 c.args.line.now c.args.at (sym c.byte_at-2.ensures ∙ c.if-byte_at-2.true))
