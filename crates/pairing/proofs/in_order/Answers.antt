-- `in_order` tests the length and the order. Assumes nothing.
use borrow.Author.Rules.{rules}
use borrow.Author.Tests.{tests}
use mathlib.Core.Path.{◌≡◌, refl}
use lib.Dec.{ltb}
use Rattle.std.proofs.lemmas.Fn.{always_returns_same}
use Rattle.pairing.specs.Answer.{rises, in_order}
use Rattle.pairing.proofs.Entries.{rises_by}
use Rattle.pairing.proofs.in_order.Goals as goal

pub returns : goal.returns
unfolding in_order
returns c =
    let l = c.args.l.now in
    let rising : c.is_sorted_by.result ≡ rises l = rises_by l c.is_sorted_by.result (c.is_sorted_by.ensures.cases ltb (always_returns_same _ (λ a r. r ≡ ltb a.0.now a.1.0.now) _ (λ a r f k. search (rules, tests)))) in
    rw rising refl
