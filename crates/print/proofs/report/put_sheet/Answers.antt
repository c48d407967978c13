-- `put_sheet`: six parts and LF, one behind the other. Assumes nothing.
use native.Mathlib.Omega.{arith}
use Rattle.print.specs.Text.{line_end}
use Rattle.print.specs.Sheet.{totals, grades, faults, weight_figures, spreads, classes_from, sheet_text}
use Rattle.print.proofs.Writes.{writes_then, writes_in, writes_as}
use Rattle.print.proofs.Parts.{six-parts}
use Rattle.print.proofs.report.put_sheet.Goals as goal

pub returns : goal.returns
unfolding sheet_text
returns c =
    let s = c.args.s in
    let rest = writes_then c.put_faults.ensures (writes_then c.put_weights.ensures (writes_then c.put_spreads.ensures (writes_then c.put_classes.ensures c.end_line.ensures))) in
    let w = writes_then c.put_totals.ensures (writes_then c.put_grades.ensures rest) in
    writes_in (omega arith) (writes_as (six-parts line_end (totals c.args.code s) (grades s) (faults s) (weight_figures s) (spreads s) (classes_from 0 s.classes) line_end (omega arith)) w)
