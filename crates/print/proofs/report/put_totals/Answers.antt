-- `put_totals`: three fields, one behind the other. Assumes nothing.
use native.Mathlib.Omega.{arith}
use lib.ListN.{drop}
use Rattle.print.specs.Text.{line_end}
use Rattle.print.specs.Sheet.{totals}
use Rattle.print.proofs.Parts.{writes-joined, last, ◌⨾◌}
use Rattle.print.proofs.report.put_totals.Goals as goal

pub returns : goal.returns
returns c =
    let s = c.args.s in
    writes-joined line_end _ (drop 1 (totals c.args.code s)) c.put_count.ensures (c.put_count-2.ensures ⨾ last c.put_count-3.ensures) (omega arith)
