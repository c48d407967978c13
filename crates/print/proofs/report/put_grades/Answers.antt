-- `put_grades`: five fields, one behind the other. Assumes nothing.
use native.Mathlib.Omega.{arith}
use Rattle.print.specs.Text.{line_end}
use Rattle.print.specs.Sheet.{grades}
use Rattle.print.proofs.Parts.{writes-fields, last, ◌⨾◌}
use Rattle.print.proofs.report.put_grades.Goals as goal

pub returns : goal.returns
returns c =
    let s = c.args.s in
    writes-fields line_end (grades s) (c.put_count.ensures ⨾ c.put_count-2.ensures ⨾ c.put_count-3.ensures ⨾ c.put_count-4.ensures ⨾ last c.put_count-5.ensures) (omega arith)
