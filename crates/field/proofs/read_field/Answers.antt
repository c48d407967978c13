-- `read_field` finds the number behind its key. Assumes nothing.
use borrow.Author.Rules.{rules}
use mathlib.Core.Path.{◌≡◌, refl, sym, ◌∙◌}
use mathlib.Core.Bool.{true, false}
use Prim.Native.Nat.{◌<◌, ◌^◌}
use native.Mathlib.Omega.{arith}
use lib.ListN.{length, drop, length-drop}
use lib.Seq.{drop-drop}
use Rattle.text.specs.Views.{is_prefix}
use Rattle.field.proofs.Fields.{prefix_within}
use Rattle.field.proofs.read_field.Goals as goal

pub returns-then-not-has_key : goal.returns-then-not-has_key
returns-then-not-has_key c =
    let a = c.args in
    let none : is_prefix a.key.now (drop a.at a.line.now) ≡ false = sym c.has_key.ensures ∙ c.if-not-has_key.true in
    rw none refl

pub overflow_add-at : goal.overflow_add-at
overflow_add-at c =
    let a = c.args in
    let h = prefix_within a.key.now (drop a.at a.line.now) (sym c.has_key.ensures ∙ c.if-not-has_key.false) in
    let l = length-drop a.at a.line.now in
    let k : length a.line.now < 2 ^ 64 = search rules in
    let f = c.ranges.at in
    record { fits = omega (arith, h, l, k, f.fits) }

pub returns : goal.returns
returns c =
    let a = c.args in
    let there : is_prefix a.key.now (drop a.at a.line.now) ≡ true = sym c.has_key.ensures ∙ c.if-not-has_key.false in
    rw (there, drop-drop (length a.key.now) a.at a.line.now) c.read_number.ensures
