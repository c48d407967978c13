-- `sole_field` reads a line of one field. Assumes nothing.
use borrow.Author.Rules.{rules}
use mathlib.Core.Path.{◌∙◌}
use native.Mathlib.Omega.{arith}
use lib.ListN.{drop}
use Rattle.field.specs.Field.{field_head}
use Rattle.laws.proofs.Signed.{back}
use Rattle.field.proofs.Fields.{Number, number-held}
use Rattle.field.proofs.Fields.{sole_none, sole-more, sole-is}
use Rattle.field.proofs.sole_field.Goals as goal

pub returns-in_err-found : goal.returns-in_err-found
returns-in_err-found c =
    let a = c.args in
    c.from_residual.ensures ∙ sole_none a.key.now a.line.now (rw c.in_err-found.was at c.read_field.ensures)

pub returns-then-found-line : goal.returns-then-found-line
returns-then-found-line c =
    let a = c.args in
    let v = c.in_ok-found.found in
    let n : Number (field_head a.key.now a.line.now) v.value (drop v.next a.line.now) = number-held _ _ _ (rw c.in_ok-found.was at c.read_field.ensures) in
    sole-more a.key.now a.line.now v.value v.next n c.if-found-line.true

pub returns : goal.returns
returns c =
    let a = c.args in
    let v = c.in_ok-found.found in
    let n : Number (field_head a.key.now a.line.now) v.value (drop v.next a.line.now) = number-held _ _ _ (rw c.in_ok-found.was at c.read_field.ensures) in
    rw (back v.value (search rules)) (sole-is a.key.now a.line.now v.value v.next n (omega arith))
