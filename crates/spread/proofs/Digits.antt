-- A product by the two parts of a factor.
use mathlib.Core.Path.{◌≡◌}
use Prim.Native.Nat.{ℕ, ◌+◌, ◌*◌}
use native.Mathlib.Omega.{arith}

pub halves_product : (a b h l M : ℕ) → h * M + l ≡ b → a * h * M + a * l ≡ a * b
halves_product a b h l M e = rw (← e) (omega arith)
