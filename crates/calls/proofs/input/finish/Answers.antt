-- `finish` writes what ends the last call: all of it is taken, or not. Assumes nothing.
use mathlib.Core.Path.{sym, ◌∙◌}
use lib.ListN.{take}
use Rattle.calls.proofs.Traced.{took_less}
use Rattle.calls.proofs.input.finish.Goals as goal

pub returns : goal.returns
returns g c =
    let text = take c.close-end.result c.close-end.new.out in
    let t = c.write_out-taken in
    let less = took_less text t.result t.ensures.taken (sym c.all.ensures ∙ c.if-all.false) in
    (record { due = text; size = less.0; less = less.1 }, c.close-end.ensures.closes.1, t.ensures.written)
