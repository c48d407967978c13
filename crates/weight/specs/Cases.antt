-- 02, T-03 "Mean rounding by cases": the six cases that service staff tick, and that they are the rounding.
use Rattle.std.specs.Prelude.{ℕ, ◌+◌, ◌*◌, ◌/◌, ◌%◌, ◌<◌, ◌≡◌, Bool, true, ◌&&◌, ltb, eqb, ℤ, pos, negsuc, neg_ℤ, nat_abs}
use Rattle.std.specs.Int.Signed.{le_z, lt_z}
use Rattle.weight.specs.Mean.{rounded}
use Rattle.weight.specs.declared.rounding.Case.{Case}
use Rattle.weight.specs.declared.rounding.Case.TheVariants.{Below, Half, Above, NegativeBelow, NegativeHalf, NegativeAbove}

-- "the whole quotient without sign", and what it leaves
abbrev pub quotient : ℤ → ℕ → ℕ
quotient s n = nat_abs s / n

abbrev pub remainder : ℤ → ℕ → ℕ
remainder s n = nat_abs s % n

-- "sum at least 0 or negative, remainder below half, exactly half, above half", each case by itself
abbrev pub holds : Case → ℤ → ℕ → Bool
holds Below s n = le_z (pos 0) s && ltb (2 * remainder s n) n
holds Half s n = le_z (pos 0) s && eqb (2 * remainder s n) n
holds Above s n = le_z (pos 0) s && ltb n (2 * remainder s n)
holds NegativeBelow s n = lt_z s (pos 0) && ltb (2 * remainder s n) n
holds NegativeHalf s n = lt_z s (pos 0) && eqb (2 * remainder s n) n
holds NegativeAbove s n = lt_z s (pos 0) && ltb n (2 * remainder s n)

-- "the whole quotient without sign, one more from half on, then the sign"
abbrev pub result_of : Case → ℤ → ℕ → ℤ
result_of Below s n = pos (quotient s n)
result_of Half s n = pos (quotient s n + 1)
result_of Above s n = pos (quotient s n + 1)
result_of NegativeBelow s n = neg_ℤ (pos (quotient s n))
result_of NegativeHalf s n = neg_ℤ (pos (quotient s n + 1))
result_of NegativeAbove s n = neg_ℤ (pos (quotient s n + 1))

-- there is a case that holds, and no other does
pub record OneCase (s : ℤ) (n : ℕ) : Type 0 where
  pub case : Case
  pub applies : holds case s n ≡ true
  pub alone : (c : Case) → holds c s n ≡ true → c ≡ case

-- s over n worked by a case: quotient q, remainder r, the case holds, and the mean is m
abbrev pub Worked : Case → ℤ → ℕ → ℕ → ℕ → ℤ → Type 0
Worked c s n q r m = (quotient s n ≡ q) × (remainder s n ≡ r) × (holds c s n ≡ true) × (rounded s n ≡ m)

pub record RoundingByCases : Type 0 where
  -- "exactly one of the six applies to each number from 1 to 999,999 and each sum within 999,999 times it": to every
  -- number from 1 on and every sum
  pub one : (s : ℤ) (n : ℕ) → 0 < n → OneCase s n
  -- "Each case is shown to give its own result"
  pub each : (s : ℤ) (n : ℕ) → 0 < n → (c : Case) → holds c s n ≡ true → rounded s n ≡ result_of c s n
  -- the numbers of docs/ROUNDING.md; negsuc k is -1 - k
  pub below : Worked Below (pos 1000) 3 333 1 (pos 333)
  pub half : Worked Half (pos 2007) 2 1003 1 (pos 1004)
  pub above : Worked Above (pos 2000) 3 666 2 (pos 667)
  pub negative-below : Worked NegativeBelow (negsuc 999) 3 333 1 (negsuc 332)
  pub negative-half : Worked NegativeHalf (negsuc 2006) 2 1003 1 (negsuc 1003)
  pub negative-above : Worked NegativeAbove (negsuc 1) 3 0 2 (negsuc 0)
