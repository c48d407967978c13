-- `sum_squared`: the sum of a fit tally is below 10^12. Assumes nothing.
use mathlib.Core.Path.{◌≡◌}
use native.Mathlib.Omega.{arith}
use lib.IntN.{nat_abs}
use borrow.Author.Rules.{rules}
use Rattle.laws.proofs.Signed.{back}
use Rattle.tally.proofs.Facts.{fit_tells}
use Rattle.spread.proofs.sum_squared.Goals as goal

pub product-requires : goal.product-requires
product-requires c =
    let t = c.args.t in
    let size_is : c.size-s.result ≡ nat_abs t.sum = rw (back t.sum (search rules)) at c.size-s.ensures in
    omega (arith, size_is, (fit_tells t c.requires).bounds)

pub returns : goal.returns
returns c =
    let t = c.args.t in
    let size_is : c.size-s.result ≡ nat_abs t.sum = rw (back t.sum (search rules)) at c.size-s.ensures in
    rw size_is at c.product.ensures
