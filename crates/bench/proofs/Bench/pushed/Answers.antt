-- `pushed`: the gross, and behind it those that stay. Assumes nothing.
use borrow.Author.Rules.{rules}
use mir.Facts.{to_z-of_z}
use Rattle.bench.specs.Bench.{grosses_of, pushed}
use Rattle.bench.proofs.Grosses.{laid_behind}
use Rattle.bench.proofs.Bench.pushed.Goals as goal

pub returns : goal.returns
unfolding pushed grosses_of
returns c =
    let a = c.args in
    rw (to_z-of_z c.ranges.gross, c.copy_from_slice.ensures.after)
    (laid_behind a.self.armed a.gross a.self.n c.min-n.result a.self.grosses (search rules) c.min-n.ensures)
