-- `line`: what it says, leaves and prints. Assumes nothing.
use mathlib.Core.Path.{◌≡◌, sym, ap, ◌∙◌}
use Rattle.std.specs.Prelude.{Some}
use Rattle.exitlog.specs.Entry.{read_entry}
use Rattle.exitlog.specs.declared.entry.Entry.TheVariants.{Verdict, Signal, TooWide}
use Rattle.exits.proofs.session.SessionCallsWithRoomCALL_ROOM.line.Goals as goal

pub returns-in-Verdict-clause-answers : goal.returns-in-Verdict-clause-answers
returns-in-Verdict-clause-answers c =
    let said : read_entry c.args.line.now ≡ Some (Verdict c.in-Verdict.tick) = sym c.read_entry.ensures ∙ c.in_ok-a.was ∙ ap Some c.in-Verdict.is in
    rw said (c.verdict.ensures c.args.out.now)

pub returns-in-Signal-clause-answers : goal.returns-in-Signal-clause-answers
returns-in-Signal-clause-answers c =
    let said : read_entry c.args.line.now ≡ Some (Signal c.in-Signal.tick) = sym c.read_entry.ensures ∙ c.in_ok-a.was ∙ ap Some c.in-Signal.is in
    rw said (c.signal.ensures c.args.out.now)

pub returns-in-TooWide-clause-answers : goal.returns-in-TooWide-clause-answers
returns-in-TooWide-clause-answers c =
    let said : read_entry c.args.line.now ≡ Some TooWide = sym c.read_entry.ensures ∙ c.in_ok-a.was ∙ ap Some c.in-TooWide.is in
    rw said (c.too_wide.ensures c.args.out.now)
