-- `turn` follows every list of events. Assumes nothing.
use mathlib.Core.Path.{◌≡◌, refl}
use Rattle.replay.specs.Replay.{state_of, turned_by}
use Rattle.replay.specs.declared.Turned.{Turned}
use Rattle.replay.proofs.Fold.{follows}
use Rattle.replay.proofs.Plant.turn.Goals as goal

pub returns-clause-follows : goal.returns-clause-follows
returns-clause-follows c =
    let t = c.apply-step in
    let before = state_of c.args.self c.args.tallies.now in
    let r : Turned = record { plant = record { line = t.result.line; settings = t.new.records }; reply = t.result.reply } in
    let answer : r ≡ turned_by before c.args.e = rw (t.ensures.answer, t.ensures.settings) refl in
    follows before c.args.e r _ answer t.ensures.memory
