-- `read_form` keeps `State` from item to item. Assumes nothing.
use borrow.Author.Rules.{rules}
use mathlib.Core.Path.{sym, ◌∙◌}
use Rattle.laws.proofs.Signed.{back}
use Rattle.numeral.proofs.Heads.{byte-here}
use Rattle.text.proofs.Filling.{byte-found, value_found, more-text}
use Rattle.text.proofs.form.read_form.Goals.{then-is_literal+else-not-byte_at, else-is_literal+in_ok-found}
use Rattle.text.proofs.form.read_form.Goals as goal

pub loop-item-preserved : goal.loop-item-preserved
loop-item-preserved g c =
    let st = c.loop-item.invariant in
    let h = c.loop-item-test.true in
    let l = sym c.is_literal.ensures in
    elim c.if-is_literal.branch [
      | then-is_literal+else-not-byte_at w ↦ rw (w.values-is, w.count-is, w.at-is)
          (byte-found st h (l ∙ w.if-is_literal.true) (byte-here _ _ _ (sym w.byte_at.ensures ∙ w.if-not-byte_at.false)))
      | else-is_literal+in_ok-found w ↦ rw (w.values-is, w.count-is, w.at-is, back w.in_ok-found.found.value (search rules))
          (value_found st h (l ∙ w.if-is_literal.false) w.in_ok-found.found (rw w.in_ok-found.was at w.read_value.ensures))
    ]

pub returns-then-at-line : goal.returns-then-at-line
returns-then-at-line g c = more-text c.loop-item.invariant c.loop-item-test.false c.if-at-line.true
