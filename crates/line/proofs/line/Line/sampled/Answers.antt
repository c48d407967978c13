-- `sampled` equals its definition `sampled`: steps 2 and 3 may end it. Assumes nothing.
use mir.Val.{SFits}
use mir.Syntax.{w64}
use Rattle.event.proofs.Facts.{in_range}
use Rattle.laws.proofs.Signed.{back}
use Rattle.line.proofs.Facts.{fit_tells}
use Rattle.line.specs.Sample.{step1}
use Rattle.line.proofs.line.Line.sampled.Goals as goal

pub running_tick-requires : goal.running_tick-requires
unfolding step1
running_tick-requires c =
    let f = fit_tells c.args.self.now c.requires.0 in
    let gross : SFits w64 c.args.s.gross = assumption in
    rw (c.step1.ensures, back c.args.s.gross gross.sfits)
    (record { setup = f.setup; item = f.item; active = c.requires.1; gross = (in_range c.args.s c.requires.2).gross })
