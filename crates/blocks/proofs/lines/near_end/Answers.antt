-- `near_end` goes on while the line of text does: its end stays the same. Assumes nothing.
use mathlib.Core.Path.{sym, ◌∙◌}
use Rattle.blocks.proofs.Ends.{sixteens_more}
use Rattle.blocks.proofs.lines.near_end.Goals as goal

pub loop-k-preserved : goal.loop-k-preserved
loop-k-preserved c =
    let l = c.loop-k in
    let e = c.in-Some.ensures.steps in
    let s = e.0 in (
      s.0 ∙ l.invariant.0,
      rw e.2 (sixteens_more c.args.input.now c.args.start _ _ c.in-Some.bytes.now _ l.invariant.1 s.1.0 (s.1.1 ∙ l.invariant.0) (sym c.has_lf.ensures ∙ c.if-has_lf.false)),
    )
