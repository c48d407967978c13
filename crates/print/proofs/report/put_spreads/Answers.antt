-- `put_spreads`: two fields, one behind the other. Assumes nothing.
use native.Mathlib.Omega.{arith}
use Rattle.print.specs.Text.{line_end}
use Rattle.print.specs.Sheet.{spreads}
use Rattle.print.proofs.Parts.{writes-fields, last, ◌⨾◌}
use Rattle.print.proofs.report.put_spreads.Goals as goal

pub returns : goal.returns
returns c =
    let s = c.args.s in
    writes-fields line_end (spreads s) (c.put_spread.ensures ⨾ last c.put_spread-2.ensures) (omega arith)
