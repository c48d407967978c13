-- `put_did`: five fields, one behind the other. Assumes nothing.
use native.Mathlib.Omega.{arith}
use Rattle.laws.proofs.Signed.{back}
use Rattle.decimal.specs.Bytes.{bytes}
use Rattle.print.specs.Reply.{did}
use Rattle.print.proofs.Parts.{writes-fields, last, ◌⨾◌}
use borrow.Author.Rules.{rules}
use Rattle.print.proofs.reply.put_did.Goals as goal

pub returns : goal.returns
returns c =
    let d = c.args.d in
    let net-wrote = rw (back d.net (search rules)) at c.put_number.ensures in
    writes-fields (bytes " ") (did d) (c.put_count.ensures ⨾ c.put_count-2.ensures ⨾ net-wrote ⨾ c.put_count-3.ensures ⨾ last c.put_error.ensures) (omega arith)
