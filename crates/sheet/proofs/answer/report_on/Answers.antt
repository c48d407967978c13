-- `report_on` prints the sheet of the part that it read, where no condition of the table held. Assumes nothing.
use borrow.Author.Rules.{rules}
use mathlib.Core.Path.{sym, ◌∙◌}
use Rattle.laws.proofs.Signed.{back}
use Rattle.sheet.specs.Report.{report_of}
use Rattle.sheet.proofs.Facts.{target_weight}
use Rattle.sheet.proofs.Printed.{printed_tells}
use Rattle.sheet.proofs.answer.report_on.Goals as goal

pub sheet_of-requires : goal.sheet_of-requires
sheet_of-requires c =
    let a = c.args in
    let p = printed_tells a.count a.own a.tallies.now a.code (sym c.report_refusal.ensures ∙ c.in_default.is) in
    (rw c.read.ensures p.tally, rw (back a.own.target (search rules)) (target_weight a.own p.own))

pub returns : goal.returns
unfolding report_of
returns c =
    let a = c.args in
    rw (c.sheet_of.ensures, c.read.ensures, back a.own.target (search rules), sym c.report_refusal.ensures ∙ c.in_default.is)
