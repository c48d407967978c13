-- `has_key` compares byte by byte. Assumes nothing.
use borrow.Author.Rules.{rules}
use mathlib.Core.Path.{◌≡◌, ap, ◌∙◌}
use lib.ListN.{drop}
use Rattle.text.specs.Views.{is_prefix}
use Rattle.text.proofs.Keys.{from_place, prefix_past, short}
use Rattle.text.proofs.quick.has_key.Goals as goal

pub returns-in_default : goal.returns-in_default
returns-in_default c = let a = c.args in c.is_empty.ensures ∙ prefix_past a.key.now a.line.now a.at (search rules)

pub returns-then-rest-key : goal.returns-then-rest-key
returns-then-rest-key c =
    let a = c.args in
    let rest : c.in-Some.rest.now ≡ drop a.at a.line.now = search (rules, from_place) in
    short a.key.now c.in-Some.rest.now c.if-rest-key.true ∙ ap (is_prefix a.key.now) rest
