-- `read_more` reads more behind the bytes that are held; at the end it puts the LF. Assumes nothing.
use borrow.Author.Rules.{rules}
use mathlib.Core.Path.{sym, ◌∙◌}
use Rattle.blocks.proofs.Fills.{fills_more, fills-end}
use Rattle.blocks.proofs.left.read_more.Goals as goal

pub returns-then-not-is_last-clause-filled : goal.returns-then-not-is_last-clause-filled
returns-then-not-is_last-clause-filled g c =
    let r = c.read_behind-read in
    fills_more c.args.input.now r.new.input c.args.held r.result r.ensures.behind (sym c.is_last.ensures ∙ c.if-not-is_last.true)

pub returns-clause-filled : goal.returns-clause-filled
returns-clause-filled g c =
    let r = c.read_behind-read in
    fills-end c.args.input.now r.new.input c.args.held r.result r.ensures.behind (sym c.is_last.ensures ∙ c.if-not-is_last.false) (search rules) c.requires (search rules)
