-- `fits_in` meets its contract: the products, one by one, stay below what `by` takes.
use mathlib.Core.Path.{◌≡◌, ◌∙◌}
use Prim.Native.Nat.{◌*◌}
use native.Mathlib.Omega.{arith}
use Rattle.spread.specs.Wide.{value}
use Rattle.spread.proofs.fits_in.Goals as goal

pub returns : goal.returns
returns c =
    let part : value c.by.result ≡ c.args.r * c.args.r * c.args.n = rw c.of.ensures.is at c.by.ensures.is in
    let a = c.args in
    let e : value c.by-2.result ≡ a.r * a.r * (a.n * a.m) = rw part at c.by-2.ensures.is ∙ omega arith in
    rw e at c.at_most.ensures
