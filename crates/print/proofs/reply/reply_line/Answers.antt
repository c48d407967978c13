-- `reply_line`: the line stands at the front. Assumes nothing.
use Rattle.print.specs.Reply.{reply_text, reply_room}
use Rattle.print.proofs.Put.{at_front}
use borrow.Author.Rules.{rules}
use Rattle.print.proofs.reply.reply_line.Goals as goal

pub returns-clause-out_after : goal.returns-clause-out_after
returns-clause-out_after c = at_front reply_room (reply_text c.args.r) c.args.out.now c.if-out-lt-REPLY_ROOM.false (search rules)
