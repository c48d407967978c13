-- `quick_sample` answers nothing, or what the line says. Assumes nothing.
use borrow.Author.Rules.{rules}
use mathlib.Core.Logic.{inr}
use mathlib.Core.Path.{◌≡◌, sym, ◌∙◌}
use lib.ListN.{drop}
use Rattle.laws.proofs.Signed.{back}
use Rattle.text.proofs.Keys.{quick_law, from_place, quick_says}
use Rattle.text.proofs.quick.quick_sample.Goals as goal

pub returns : goal.returns
returns c =
    let line = c.args.line.now in
    let safety = c.in_ok-safety.safety in
    let gross = c.in_ok-gross.gross in
    let rest = c.in_ok-rest.rest.now in
    let part : rest ≡ drop safety.next line = search (rules, from_place) in
    let law = quick_law line rest safety.value gross.value safety.next gross.next
    (sym c.is_head.ensures ∙ c.if-not-is_head.false)
    (rw c.in_ok-safety.was at c.read_number.ensures)
    part
    (sym c.is_middle.ensures ∙ c.if-not-is_middle.false)
    (rw c.in_ok-gross.was at c.read_number-2.ensures)
    c.if-gross-rest.false in
    inr (rw (back gross.value (search rules))
    (quick_says line rest safety.value gross.value _ _ _ _ c.level_of.ensures c.level_of-2.ensures
    (rw (back safety.value (search rules)) at c.unsigned_of.ensures) c.level_of-3.ensures law))
