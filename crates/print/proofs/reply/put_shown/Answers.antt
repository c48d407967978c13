-- `put_shown`: four fields, one behind the other. Assumes nothing.
use native.Mathlib.Omega.{arith}
use lib.ListN.{drop}
use Rattle.decimal.specs.Bytes.{bytes}
use Rattle.print.specs.Reply.{shown}
use Rattle.print.proofs.Parts.{writes-joined, last, ◌⨾◌}
use Rattle.print.proofs.reply.put_shown.Goals as goal

pub returns : goal.returns
returns c =
    let d = c.args.d in
    writes-joined (bytes " ") _ (drop 1 (shown d)) c.put_count.ensures (c.put_count-2.ensures ⨾ c.put_count-3.ensures ⨾ last c.put_count-4.ensures) (omega arith)
