-- `sheet_lines`: the lines stand at the front. Assumes nothing.
use Rattle.print.specs.Sheet.{sheet_text, sheet_room}
use Rattle.print.proofs.Put.{at_front}
use borrow.Author.Rules.{rules}
use Rattle.print.proofs.report.sheet_lines.Goals as goal

pub returns-clause-out_after : goal.returns-clause-out_after
returns-clause-out_after c = at_front sheet_room (sheet_text c.args.code c.args.s) c.args.out.now c.if-out-lt-SHEET_ROOM.false (search rules)
