-- `read_window` reads a line of two fields. Assumes nothing.
use borrow.Author.Rules.{rules}
use mathlib.Core.Path.{ap, ◌∙◌}
use Rattle.numeral.specs.Number.{unsigned_of}
use Rattle.laws.proofs.Signed.{back}
use Rattle.field.proofs.Fields.{number-held}
use Rattle.exitlog.proofs.Fields.{no_first, no_second, more_left, window-is}
use Rattle.exitlog.proofs.entry.read_window.Goals as goal

pub returns-in_err-a : goal.returns-in_err-a
returns-in_err-a c = c.from_residual.ensures ∙ no_first c.args.line.now (rw c.in_err-a.was at c.read_field.ensures)

pub returns-in_err-b : goal.returns-in_err-b
returns-in_err-b c =
    let a = c.in_ok-a.a in
    let n = number-held _ _ _ (rw c.in_ok-a.was at c.read_field.ensures) in
    c.from_residual-in_err-b.ensures ∙ no_second c.args.line.now a.value a.next n (rw c.in_err-b.was at c.read_field-2.ensures)

pub returns-then-b-line : goal.returns-then-b-line
returns-then-b-line c =
    let a = c.in_ok-a.a in
    let b = c.in_ok-b.b in
    let n = number-held _ _ _ (rw c.in_ok-a.was at c.read_field.ensures) in
    let m = number-held _ _ _ (rw c.in_ok-b.was at c.read_field-2.ensures) in
    more_left c.args.line.now a.value a.next n b.value b.next m c.if-b-line.true

pub returns : goal.returns
returns c =
    let a = c.in_ok-a.a in
    let b = c.in_ok-b.b in
    let n = number-held _ _ _ (rw c.in_ok-a.was at c.read_field.ensures) in
    let m = number-held _ _ _ (rw c.in_ok-b.was at c.read_field-2.ensures) in
    window-is c.args.line.now a.value a.next n b.value b.next m c.if-b-line.false _ _
    (c.unsigned_of.ensures ∙ ap unsigned_of (back a.value (search rules)))
    (c.unsigned_of-2.ensures ∙ ap unsigned_of (back b.value (search rules)))
