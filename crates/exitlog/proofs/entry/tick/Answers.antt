-- `tick` reads on only a number without a sign. Assumes nothing.
use borrow.Author.Rules.{rules}
use mathlib.Core.Path.{◌≡◌, ◌∙◌}
use mathlib.Core.Bool.{true, false}
use mir.Syntax.{w64}
use mir.Val.{to_z, of_z}
use lib.IntN.{pos}
use lib.Signed.{lt_z}
use Rattle.laws.proofs.Signed.{back}
use Rattle.field.proofs.Fields.{sole}
use Rattle.exitlog.proofs.Fields.{tick-below, plain, tick-plain}
use Rattle.exitlog.proofs.entry.tick.Goals as goal

pub returns-then-value-lt0 : goal.returns-then-value-lt0
returns-then-value-lt0 c =
    let a = c.args in
    let below : lt_z a.value (pos 0) ≡ true = rw (back a.value (search rules)) at c.if-value-lt0.true in
    tick-below a.key.now a.line.now a.value (sole a.key.now a.line.now a.value c.requires) below

pub exact-requires : goal.exact-requires
exact-requires c =
    let a = c.args in
    let plainly : lt_z (to_z w64 (of_z w64 a.value)) (pos 0) ≡ false = search rules in
    let plain_value : lt_z a.value (pos 0) ≡ false = rw (back a.value (search rules)) at plainly in
    plain a.key.now a.line.now a.value (sole a.key.now a.line.now a.value c.requires) plain_value

pub returns : goal.returns
returns c =
    let a = c.args in
    let plainly : lt_z (to_z w64 (of_z w64 a.value)) (pos 0) ≡ false = search rules in
    let plain_value : lt_z a.value (pos 0) ≡ false = rw (back a.value (search rules)) at plainly in
    let s = sole a.key.now a.line.now a.value c.requires in
    c.exact.ensures (plain a.key.now a.line.now a.value s plain_value) ∙ tick-plain a.key.now a.line.now a.value s plain_value
