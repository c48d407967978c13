-- `step6` equals its definition `step6`. Assumes nothing.
use mathlib.Core.Path.{sym, ◌∙◌}
use mir.Val.{SFits}
use mir.Syntax.{w64}
use Rattle.event.proofs.Facts.{timers}
use Rattle.laws.proofs.Signed.{back}
use Rattle.item.proofs.Keeps.{weighing, mean_weighs}
use Rattle.line.proofs.line.Line.step6.Goals as goal

pub judged-requires : goal.judged-requires
judged-requires c =
    let l = c.args.self.now in
    let t = c.args.tick.now in
    let m = c.in-Mean.m in
    let gross : SFits w64 t.gross = assumption in
    let mean : SFits w64 m = assumption in
    let e = rw (back t.gross gross.sfits) at (sym c.weighed.ensures ∙ c.in-Mean.is) in
    (c.requires.active, rw (back m mean.sfits) (mean_weighs m (weighing l.item l.setup t.gross (timers l.setup c.requires.setup) c.requires.item c.requires.gross) e))
