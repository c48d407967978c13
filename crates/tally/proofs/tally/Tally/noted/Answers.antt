-- `noted` tallies what the tally takes. Assumes nothing.
use mathlib.Core.Path.{sym, ◌∙◌}
use borrow.Author.Tests.{leb-true}
use mir.Facts.{to_z-of_z}
use Rattle.tally.proofs.Facts.{takes_tells}
use Rattle.tally.proofs.tally.Tally.noted.Goals as goal

pub added-requires : goal.added-requires
added-requires c =
    let a = c.args in
    let t = takes_tells a.self a.verdict a.net (rw (to_z-of_z c.ranges.net) at (sym c.takes.ensures ∙ c.if-takes.true)) in
    rw (to_z-of_z c.ranges.net) (t.fit, leb-true _ _ t.weight)
