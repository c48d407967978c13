-- What two digits in base 10^12 stand for.
use Rattle.std.specs.Prelude.{◌≡◌, ℕ, ◌+◌, ◌*◌, ◌<◌}
use Rattle.spread.specs.declared.wide.Wide.{Wide}

abbrev pub base : ℕ
base = 1000000000000

abbrev pub value : Wide → ℕ
value w = w.hi * base + w.lo

-- the low one is a digit
abbrev pub Digits : Wide → Type 0
Digits w = w.lo < base

-- w stands for x
pub record Holds (w : Wide) (x : ℕ) : Type 0 where
  pub is : value w ≡ x
  pub digits : Digits w
