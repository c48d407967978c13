-- 02, T-05: "Beside each tally stand 21 class counts".
use Rattle.std.specs.Prelude.{ℕ, Bool, ◌&&◌, eqb, Option, Some, None, ℤ, length, replicate}
use Rattle.laws.specs.Choice.{when◌then◌else◌}
use Rattle.lists.specs.Counts.{add_up, one_more}
use Rattle.weight.specs.Weight.{is_weight}
use Rattle.verdict.specs.Verdict.{is_grade}
use Rattle.tally.specs.Tally.{empty_tally, tally_fit, takes, added}
use Rattle.part.specs.Class.{class_count, class_of}
use Rattle.part.specs.declared.part.Part.{Part}

-- "all zeros is the empty tally"
abbrev pub empty_part : Part
empty_part = record { tally = empty_tally; classes = replicate class_count 0 }

-- "that the 21 add to n"
unfoldable pub part_fit : Part → Bool
part_fit p = tally_fit p.tally && eqb (length p.classes) class_count && eqb (add_up p.classes) p.tally.n

-- a part with one more verdict; "The target is the one at the verdict"
unfoldable pub added_part : Part → ℕ → ℤ → ℤ → Part
added_part p v net target =
    record {
      tally = added p.tally v net;
      classes = when is_grade v then one_more p.classes (class_of net target) else p.classes;
    }

-- a part takes a verdict with its net and target: it is fit, the target is a weight, and its tally takes the verdict
unfoldable pub takes_in : Part → ℕ → ℤ → ℤ → Bool
takes_in p v net target = part_fit p && is_weight target && takes p.tally v net

-- the part with a verdict; none where it is given but not tallied
unfoldable pub noted_part : Part → ℕ → ℤ → ℤ → Option Part
noted_part p v net target = when takes_in p v net target then Some (added_part p v net target) else None
