-- A number below 0 has its minus before its digits. Assumes nothing.
use Prim.Native.Nat.{ℕ, suc}
use mathlib.Core.Path.{◌≡◌, refl}
use mathlib.Core.List.{◌∷◌}
use lib.IntN.{negsuc}
use Rattle.decimal.specs.Number.{decimal, number_text}

number-below : (n : ℕ) → number_text (negsuc n) ≡ 45 ∷ decimal (suc n)
number-below n = refl
