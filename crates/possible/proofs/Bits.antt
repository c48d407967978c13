-- Which bits of a mask are set: the digits that it is the number of. Assumes nothing.
use mathlib.Core.Path.{◌≡◌, refl}
use mathlib.Core.Bool.{Bool, true, false}
use mathlib.Core.List.{List, [], ◌∷◌}
use Prim.Native.Nat.{ℕ, zero, suc, ◌+◌, ◌*◌, ◌/◌, ◌%◌, ◌^◌}
use native.Mathlib.Nat.{zero-div, div-one, div-div-eq-div-mul}
use native.Mathlib.Omega.{arith}
use lib.Dec.{eqb}
use lib.ListN.{get_or}
use Rattle.laws.specs.Choice.{bit}
use Rattle.mask.specs.Bits.{bit_set}

-- the number of these digits, the lowest first
abbrev pub number : List Bool → ℕ
number [] = 0
number (b ∷ bs) = bit b + 2 * number bs

lowest : (b : Bool) (n : ℕ) → ((bit b + 2 * n) % 2 ≡ bit b) × ((bit b + 2 * n) / 2 ≡ n)
lowest true n = (omega arith, omega arith)
lowest false n = (omega arith, omega arith)

is_one : (b : Bool) → eqb (bit b) 1 ≡ b
is_one true = refl
is_one false = refl

pub bits : (bs : List Bool) (k : ℕ) → bit_set (number bs) k ≡ get_or bs k false
bits [] k = rw (zero-div (2 ^ k)) refl
bits (b ∷ bs) zero = rw (div-one, (lowest b (number bs)).0) (is_one b)
bits (b ∷ bs) (suc k) =
    let half : 2 ^ suc k ≡ 2 * 2 ^ k = omega arith in
    rw (half, ← div-div-eq-div-mul, (lowest b (number bs)).1) (bits bs k)
