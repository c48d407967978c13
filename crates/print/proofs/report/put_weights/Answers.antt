-- `put_weights`: five fields, one behind the other. Assumes nothing.
use native.Mathlib.Omega.{arith}
use Rattle.laws.proofs.Signed.{back}
use Rattle.print.specs.Text.{line_end}
use Rattle.print.specs.Sheet.{weight_figures}
use Rattle.print.proofs.Parts.{writes-fields, last, ◌⨾◌}
use borrow.Author.Rules.{rules}
use Rattle.print.proofs.report.put_weights.Goals as goal

pub returns : goal.returns
returns c =
    let s = c.args.s in
    let sum-wrote = rw (back s.sum (search rules)) at c.put_number.ensures in
    writes-fields line_end (weight_figures s) (c.put_figure.ensures ⨾ c.put_figure-2.ensures ⨾ sum-wrote ⨾ c.put_figure-3.ensures ⨾ last c.put_figure-4.ensures) (omega arith)
