-- The closed form that the code computes, for the contracts of the private functions: samples moved to an end of their margin,
-- and the outcomes between two means.
use Rattle.std.specs.Prelude.{◌&&◌, List, map, ℕ, ◌+◌, ◌*◌, ◌^◌, ℤ, pos, neg_ℤ, ◌+ℤ◌, ◌-ℤ◌}
use Rattle.std.specs.Int.Signed.{lt_z, le_z}
use Rattle.laws.specs.Choice.{when◌then◌else◌, bit}
use Rattle.lists.specs.Sums.{sum_of}
use Rattle.weight.specs.Weight.{largest_weight}
use Rattle.verdict.specs.Verdict.{lolo, lo, ok, hi, hihi, dismissed}
use Rattle.settings.specs.declared.Settings.{Settings}

-- the ends of the weights
abbrev pub bottom : ℤ
bottom = neg_ℤ (pos largest_weight)

abbrev pub top : ℤ
top = pos largest_weight

-- x moved by d, held within the weights
unfoldable pub clipped : ℤ → ℤ → ℤ
clipped d x = when lt_z (x +ℤ d) bottom then bottom else (when lt_z top (x +ℤ d) then top else (x +ℤ d))

-- the sum of samples that are so moved
abbrev pub sum_at : ℤ → List ℤ → ℤ
sum_at d xs = sum_of (map (clipped d) xs)

-- the least mean from low on that is not dismissed
unfoldable pub undismissed : ℤ → ℤ → ℤ
undismissed low nearzero = when le_z low nearzero then nearzero +ℤ pos 1 else low

-- the grades of the nets from l to h, bit k for grade k
unfoldable pub grades_between : Settings → ℤ → ℤ → ℕ
grades_between s l h =
    2 ^ lolo * bit (le_z l h && lt_z l s.lolo)
    + 2 ^ lo * bit (le_z l h && lt_z l s.lo && le_z s.lolo h && lt_z s.lolo s.lo)
    + 2 ^ ok * bit (le_z l h && le_z l s.hi && le_z s.lo h)
    + 2 ^ hi * bit (le_z l h && le_z l s.hihi && lt_z s.hi h && lt_z s.hi s.hihi)
    + 2 ^ hihi * bit (le_z l h && lt_z s.hihi h)

-- the outcomes of the means from low to high
unfoldable pub outcomes_between : Settings → ℤ → ℤ → ℕ
outcomes_between s low high =
    2 ^ dismissed * bit (le_z low s.nearzero)
    + grades_between s (undismissed low s.nearzero -ℤ s.tare) (high -ℤ s.tare)
