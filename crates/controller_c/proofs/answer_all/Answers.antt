-- The complete lines are answered, and then the last one. Assumes nothing.
use Rattle.std.specs.Prelude.{replicate, pos}
use Rattle.line.specs.State.{state}
use Rattle.sessions.proofs.Answered.{as_answered}
use Rattle.controller_c.proofs.Ends.{fresh, none_left, last_served}
use Rattle.controller_c.proofs.answer_all.Goals as goal

pub returns-then-input-block-clause-printed : goal.returns-then-input-block-clause-printed
returns-then-input-block-clause-printed c =
    let a = c.args in
    let b = c.serve_block-block in
    let e = b.ensures in
    let s = state c.fresh-line.result (replicate 100 c.blank-records.result) (replicate 3400 (pos 0)) in
    none_left (fresh _ _ c.fresh-line.ensures c.blank-records.ensures) (as_answered s a.input.now a.out.now b.result b.new.line b.new.records b.new.tallies b.new.out e.answer e.line e.settings e.memory e.output)
    c.if-input-block.true

pub returns : goal.returns
returns c =
    let a = c.args in
    let b = c.serve_block-block in
    let e = b.ensures in
    let s = state c.fresh-line.result (replicate 100 c.blank-records.result) (replicate 3400 (pos 0)) in
    let served =
    last_served (fresh _ _ c.fresh-line.ensures c.blank-records.ensures) (as_answered s a.input.now a.out.now b.result b.new.line b.new.records b.new.tallies b.new.out e.answer e.line e.settings e.memory e.output)
    c.if-input-block.false c.serve.result c.serve.new.out c.serve.ensures.answer c.serve.ensures.output in
    record { printed = served.0; room = λ room. served.1 (rw b.auto.out room) }
