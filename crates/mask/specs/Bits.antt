-- 01, "Events": the masks sort, stop and need. Bits are counted from 0, inputs from 1: input k is bit k - 1.
use Rattle.std.specs.Prelude.{ℕ, ◌-◌, ◌/◌, ◌%◌, ◌^◌, Bool, ◌&&◌, not, List, [], ◌∷◌, eqb}
use Rattle.laws.specs.Choice.{when◌then◌else◌, within}

-- bit k of a mask is set
abbrev pub bit_set : ℕ → ℕ → Bool
bit_set mask k = eqb (mask / 2 ^ k % 2) 1

-- "In sort and stop, bit 7 is LoLo, then Lo, OK, Hi, HiHi, foreign, two-on, and bit 0 crash": verdict 1 is LoLo, verdict 8 crash
unfoldable pub marked : ℕ → ℕ → Bool
marked mask verdict = within 1 8 verdict && bit_set mask (8 - verdict)

-- input k is required and off
abbrev pub is_off : ℕ → ℕ → ℕ → Bool
is_off need safety k = bit_set need (k - 1) && not (bit_set safety (k - 1))

-- the first of some inputs that is required and off, 0 if none is
unfoldable pub first_off : ℕ → ℕ → List ℕ → ℕ
first_off need safety [] = 0
first_off need safety (k ∷ ks) = when is_off need safety k then k else first_off need safety ks

-- "the number of the lowest required input that is off" (0 if none is)
abbrev pub lowest_off : ℕ → ℕ → ℕ
lowest_off need safety = first_off need safety (1 ∷ 2 ∷ 3 ∷ 4 ∷ 5 ∷ 6 ∷ 7 ∷ 8 ∷ [])
