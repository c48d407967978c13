-- `line`: what it says, leaves and prints. Assumes nothing.
use mathlib.Core.Path.{◌≡◌, sym, ap, ◌∙◌}
use Prim.Native.Nat.{◌<◌, ◌^◌}
use borrow.Author.Rules.{rules}
use lib.Signed.{mag}
use Rattle.std.specs.Prelude.{Some}
use Rattle.laws.proofs.Signed.{back}
use Rattle.marginlog.specs.Entry.{read_entry}
use Rattle.marginlog.specs.declared.entry.Entry.TheVariants.{Store, Gross}
use Rattle.margin.proofs.session.SessionCallsWithRoomREPLY_ROOM.line.Goals as goal

pub returns-in-Store-clause-answers : goal.returns-in-Store-clause-answers
returns-in-Store-clause-answers c =
    let said : read_entry c.args.line.now ≡ Some (Store c.in-Store.stored) = sym c.read_entry.ensures ∙ c.in_ok-e.was ∙ ap Some c.in-Store.is in
    rw said (c.store.ensures c.args.out.now)

pub returns-in-Gross-clause-answers : goal.returns-in-Gross-clause-answers
returns-in-Gross-clause-answers c =
    let x = c.in-Gross.gross in
    let fits : mag x < 2 ^ 63 = search rules in
    let said : read_entry c.args.line.now ≡ Some (Gross x) = sym c.read_entry.ensures ∙ c.in_ok-e.was ∙ ap Some c.in-Gross.is in
    rw said (rw (back x fits) at (c.sample.ensures c.args.out.now))
