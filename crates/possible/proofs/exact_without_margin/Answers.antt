-- `exact_without_margin` is the theorem. Assumes nothing.
use Rattle.possible.proofs.Exactly.{exact}
use Rattle.possible.proofs.exact_without_margin.Goals as goal

pub returns : goal.returns
returns c = exact
