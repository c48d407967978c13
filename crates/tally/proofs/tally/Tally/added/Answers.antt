-- `added` counts the verdict, and a grade's net with it. Assumes nothing.
use mir.Facts.{to_z-of_z}
use Rattle.tally.proofs.Facts.{fit_tells}
use Rattle.tally.proofs.tally.Tally.added.Goals as goal

pub with-self-requires : goal.with-self-requires
with-self-requires c = (fit_tells c.args.self c.requires.0).verdicts

pub weighed-requires : goal.weighed-requires
weighed-requires c =
    let b = (fit_tells c.args.self c.requires.0).bounds in
    rw (to_z-of_z c.ranges.net) (record { n = b.n; sum = b.sum; squares = b.squares }, c.requires.1)
