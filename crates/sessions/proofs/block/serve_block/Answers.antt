-- `serve_block` answers one line of text after another, until none is complete or an answer has too little room. Assumes nothing.
use mathlib.Core.Path.{refl, sym, ◌∙◌}
use native.Mathlib.Omega.{arith}
use Rattle.line.specs.State.{state}
use Rattle.sessions.proofs.Goes.{rest_none, rest_full, rest_goes}
use Rattle.sessions.proofs.block.serve_block.Goals as goal

pub returns-then-input-end : goal.returns-then-input-end
returns-then-input-end c =
    let l = c.loop-start in
    let is = l.invariant.1 ∙ rest_none (state l.line l.records l.tallies) c.args.input.now l.out l.start l.at l.invariant.0 (rw c.line_end-end.ensures at c.if-input-end.true) in
    rw is (record { answer = refl; line = refl; settings = refl; memory = refl; output = refl })

pub returns-in_default : goal.returns-in_default
returns-in_default c =
    let l = c.loop-start in
    let s = c.serve in
    let is = l.invariant.1 ∙ rest_full c.args.input.now l.start c.line_end-end.result c.line_end-end.ensures c.if-input-end.false (state l.line l.records l.tallies) l.out l.at (sym c.in_default.is ∙ s.ensures.answer) in
    rw is (record { answer = refl; line = s.ensures.line; settings = s.ensures.settings; memory = s.ensures.memory; output = s.ensures.output })

pub loop-start-preserved : goal.loop-start-preserved
loop-start-preserved c =
    let l = c.loop-start in
    let s = c.serve in
    let is = l.invariant.1 ∙ rest_goes c.args.input.now l.start c.line_end-end.result c.line_end-end.ensures c.if-input-end.false (state l.line l.records l.tallies) l.out l.at c.in-Some.next (sym c.in-Some.is ∙ s.ensures.answer) in
    rw (s.ensures.line, s.ensures.settings, s.ensures.memory, s.ensures.output) (omega (arith, c.if-input-end.false), is)
