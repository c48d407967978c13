-- `put_refused` writes the line of a refusal where a call's lines would have room. Assumes nothing.
use mathlib.Core.Path.{◌≡◌}
use mathlib.Core.Bool.{true}
use native.Mathlib.Omega.{arith}
use lib.Dec.{leb}
use lib.ListN.{length}
use borrow.Author.Tests.{le-leb}
use Rattle.print.specs.Reply.{refused_text, reply_room}
use Rattle.print.proofs.Put.{kept-front}
use Rattle.exitlog.specs.Lines.{call_room}
use Rattle.exitlog.proofs.lines.put_refused.Goals as goal

pub returns-then-out-lt-CALL_ROOM : goal.returns-then-out-lt-CALL_ROOM
returns-then-out-lt-CALL_ROOM c =
    let a = c.args in
    kept-front call_room (refused_text a.number 0) a.out.now c.if-out-lt-CALL_ROOM.true

pub returns : goal.returns
returns c =
    let a = c.args in
    let w = c.refuse in
    let room = c.if-out-lt-CALL_ROOM.false in
    let own : leb reply_room (length a.out.now) ≡ true = le-leb reply_room (length a.out.now) (omega (arith, room)) in
    let call : leb call_room (length a.out.now) ≡ true = le-leb call_room (length a.out.now) room in
    rw call ((rw own at w.ensures.0), (rw own at w.ensures.1))
