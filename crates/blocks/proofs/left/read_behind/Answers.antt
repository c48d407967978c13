-- `read_behind` takes from the reader what it puts behind the bytes that are held. Assumes nothing.
use borrow.Author.Rules.{rules}
use lib.ListN.{take}
use lib.Seq.{length-take-le}
use Rattle.blocks.proofs.Draws.{draws}
use Rattle.blocks.proofs.left.read_behind.Goals as goal

pub returns-clause-drawn : goal.returns-clause-drawn
returns-clause-drawn g c some =
    draws _ _ c.read-answered.result (take c.args.held c.args.input.now) c.read-answered.new.buf _ c.args.held c.unwrap_or-n.result c.standing_at.result
    (length-take-le c.args.held c.args.input.now c.requires) c.unwrap_or-n.ensures c.standing_at.ensures c.read-answered.ensures.bound c.read-answered.ensures.bytes (search rules)
