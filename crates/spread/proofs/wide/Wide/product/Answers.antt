-- `wide::Wide::product` meets its contract: a digit times half a digit fits 64 bits.
use Prim.Native.Nat.{◌/◌, ◌%◌}
use native.Mathlib.Omega.{arith}
use Rattle.spread.proofs.Digits.{halves_product}
use Rattle.spread.proofs.wide.Wide.product.Goals as goal

pub returns : goal.returns
returns c =
    let p = c.args in
    omega (arith, halves_product p.a p.b (p.b / 1000000) (p.b % 1000000) 1000000 (omega arith))
