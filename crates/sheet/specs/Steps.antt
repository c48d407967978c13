-- What the private steps ask and give.
use Rattle.std.specs.Prelude.{Bool, true, ℤ, ◌-ℤ◌, Option, Some, None}
use Rattle.weight.specs.Weight.{is_weight}

abbrev pub weight_or_none : Option ℤ → Bool
weight_or_none None = true
weight_or_none (Some x) = is_weight x

-- the deviation of a mean that may be none
abbrev pub less_target : Option ℤ → ℤ → Option ℤ
less_target None target = None
less_target (Some mean) target = Some (mean -ℤ target)
