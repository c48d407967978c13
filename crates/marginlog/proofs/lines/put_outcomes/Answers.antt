-- `put_outcomes` writes the names of the possible outcomes, commas between. Assumes nothing.
use mathlib.Core.Path.{ap, ◌∙◌}
use mathlib.Core.List.{List, ◌++◌}
use Prim.Native.Nat.{ℕ}
use native.Mathlib.Omega.{arith}
use Rattle.decimal.specs.Bytes.{bytes}
use Rattle.print.specs.Text.{line_end}
use Rattle.print.specs.Reply.{reply_room}
use borrow.Author.Rules.{rules}
use Rattle.print.proofs.Put.{wrote_then, wrote_as, wrote-front, kept-front, at_front}
use Rattle.marginlog.specs.Lines.{outcome_names, outcomes_text}
use Rattle.marginlog.proofs.Names.{listed, names_joined, names_written}
use Rattle.marginlog.proofs.lines.put_outcomes.Goals as goal

pub returns-then-out-lt-REPLY_ROOM : goal.returns-then-out-lt-REPLY_ROOM
returns-then-out-lt-REPLY_ROOM c = let a = c.args in kept-front reply_room (outcomes_text a.mask) a.out.now c.if-out-lt-REPLY_ROOM.true

pub returns : goal.returns
unfolding outcomes_text
returns c =
    let long = c.if-out-lt-REPLY_ROOM.false in
    let mask = c.args.mask in
    let k = c.text.ensures.wrote (omega (arith, long)) in
    let a = c.put_name.ensures (omega (arith, long, k.wrote.place, k.size)) in
    let b = c.put_name-2.ensures (omega (arith, long, k.wrote.place, k.size, a.wrote.place, a.wrote.short, a.size)) in
    let d = c.put_name-3.ensures (omega (arith, long, k.wrote.place, k.size, a.wrote.place, a.wrote.short, a.size, b.wrote.place, b.wrote.short, b.size)) in
    let e = c.put_name-4.ensures (omega (arith, long, k.wrote.place, k.size, a.wrote.place, a.wrote.short, a.size, b.wrote.place, b.wrote.short, b.size, d.wrote.place, d.wrote.short, d.size)) in
    let f = c.put_name-5.ensures (omega (arith, long, k.wrote.place, k.size, a.wrote.place, a.wrote.short, a.size, b.wrote.place, b.wrote.short, b.size, d.wrote.place, d.wrote.short, d.size, e.wrote.place, e.wrote.short, e.size)) in
    let g = c.put_name-6.ensures (omega (arith, long, k.wrote.place, k.size, a.wrote.place, a.wrote.short, a.size, b.wrote.place, b.wrote.short, b.size, d.wrote.place, d.wrote.short, d.size, e.wrote.place, e.wrote.short, e.size, f.wrote.place, f.wrote.short, f.size)) in
    let z = c.text-2.ensures.wrote (omega (arith, long, k.wrote.place, k.size, a.wrote.place, a.wrote.short, a.size, b.wrote.place, b.wrote.short, b.size, d.wrote.place, d.wrote.short, d.size, e.wrote.place, e.wrote.short, e.size, f.wrote.place, f.wrote.short, f.size, g.wrote.place, g.wrote.short, g.size)) in
    let names = names_written mask a.wrote b.wrote d.wrote e.wrote f.wrote g.wrote (omega (arith, z.wrote.fits)) in
    let is = ap (λ (t : List ℕ). (bytes "outcomes=" ++ t) ++ line_end) (ap (λ (n : ℕ). listed n (outcome_names mask)) k.wrote.place ∙ names_joined mask) in
    let w = wrote_as is (wrote_then (wrote_then k.wrote names) z.wrote) in
    let both = wrote-front reply_room long w in
    let bytes_are = w.bytes in
    (both.0, at_front reply_room (outcomes_text mask) c.args.out.now long (search rules))
