-- `replay` is the fold: after some turns the plant and its tallies are those of the events so far. Assumes nothing.
use Rattle.replay.specs.Replay.{state_of}
use Rattle.replay.proofs.Fold.{turned_after}
use Rattle.replay.proofs.replay.Goals as goal

pub loop-e-preserved : goal.loop-e-preserved
loop-e-preserved c =
    let l = c.loop-e in
    let t = c.turn in
    turned_after (state_of c.fresh-plant.result c.clear.new.tallies) c.args.events.now l.e-index _ l.plant l.tallies l.invariant c.loop-e-test.true t.result t.new.tallies t.ensures.answer t.ensures.memory
