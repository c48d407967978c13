-- `put_done`: two parts and LF, one behind the other. Assumes nothing.
use borrow.Author.Rules.{rules}
use Rattle.print.proofs.Parts.{done_written}
use Rattle.print.proofs.reply.put_done.Goals as goal

pub returns : goal.returns
returns c = search (rules, done_written)
