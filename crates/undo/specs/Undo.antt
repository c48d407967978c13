-- 01: what a verdict and its cancel do to what stands under a code, and what is kept between them.
use Rattle.std.specs.Prelude.{ℕ, Bool, true, ◌&&◌, List, Option, Some, None, ℤ}
use Rattle.laws.specs.Choice.{when◌then◌else◌}
use Rattle.part.specs.Part.{part_fit, takes_in, added_part}
use Rattle.part.specs.declared.part.Part.{Part}
use Rattle.tallies.specs.Memory.{fit_at, part_at, with_part, written}

-- "a kept tally fit", with its 21 counts; there may be "nothing to cancel"
unfoldable pub undo_fit : Option Part → Bool
undo_fit None = true
undo_fit (Some p) = part_fit p

-- a code's part takes verdict v with its net and target: it is fit, and "At 999,999 verdicts a further one is given but not tallied."
unfoldable pub takes_at : List ℤ → ℕ → ℕ → ℤ → ℤ → Bool
takes_at ts c v net target = fit_at ts c && takes_in (part_at ts c) v net target

-- what is kept of a verdict: the code's part as before it, if it was tallied; "tallied" is then 1
abbrev pub kept_of : List ℤ → ℕ → ℕ → ℤ → ℤ → Option Part
kept_of ts c v net target = when takes_at ts c v net target then Some (part_at ts c) else None

-- the tallies after a verdict
abbrev pub noted_in : List ℤ → ℕ → ℕ → ℤ → ℤ → List ℤ
noted_in ts c v net target = when takes_at ts c v net target then with_part ts c (added_part (part_at ts c) v net target) else ts

-- "Cancel puts back the active code's tally as before the last verdict."; what is unfit is not written
abbrev pub put_back : List ℤ → ℕ → Option Part → List ℤ
put_back ts c None = ts
put_back ts c (Some p) = written ts c p
