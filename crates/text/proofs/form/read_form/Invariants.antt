-- What the loop keeps.
use Rattle.text.proofs.Filling.{State}
use Rattle.text.proofs.form.read_form.Given as goal

abbrev pub invariant-loop-item : goal.invariant-loop-item
invariant-loop-item g l = State l.line l.form l.values l.count l.at l.item-index
