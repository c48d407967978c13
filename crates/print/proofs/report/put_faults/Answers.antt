-- `put_faults`: three fields, one behind the other. Assumes nothing.
use native.Mathlib.Omega.{arith}
use Rattle.print.specs.Text.{line_end}
use Rattle.print.specs.Sheet.{faults}
use Rattle.print.proofs.Parts.{writes-fields, last, ◌⨾◌}
use Rattle.print.proofs.report.put_faults.Goals as goal

pub returns : goal.returns
returns c =
    let s = c.args.s in
    writes-fields line_end (faults s) (c.put_count.ensures ⨾ c.put_count-2.ensures ⨾ last c.put_count-3.ensures) (omega arith)
