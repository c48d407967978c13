-- `put_class`: the number of the class, and its count behind it. Assumes nothing.
use mathlib.Core.List.{◌∷◌, append_assoc}
use native.Mathlib.Omega.{arith}
use lib.ListN.{length-append}
use Rattle.decimal.specs.Bytes.{bytes}
use Rattle.decimal.specs.Number.{decimal}
use Rattle.decimal.proofs.Digits.{at_most_20}
use Rattle.print.proofs.Writes.{writes_then, writes-within, writes_as}
use Rattle.print.proofs.Classes.{class-short}
use borrow.Author.Rules.{rules}
use Rattle.print.proofs.report.put_class.Goals as goal

pub put_count-requires-2 : goal.put_count-requires-2
put_count-requires-2 c =
    let short = class-short c.args.k c.requires.1 in
    let place = c.put_count.ensures.wrote.place in
    search rules

pub returns : goal.returns
returns c =
    let short = class-short c.args.k c.requires.1 in
    let few = at_most_20 c.args.n (omega arith) in
    let w = writes_then c.put_count.ensures c.put_count-2.ensures in
    writes-within (simp length-append (omega arith))
    (writes_as (append_assoc (bytes "\nclass") (decimal c.args.k) (61 ∷ decimal c.args.n)) w)
