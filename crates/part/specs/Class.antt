-- 02, T-05: the classes of a net about the target, and the formula for them.
use Rattle.std.specs.Prelude.{ℕ, ◌*◌, ◌/◌, min, Bool, ◌&&◌, ◌||◌, eqb, ℤ, pos, nat_abs, ◌+ℤ◌, ◌-ℤ◌}
use Rattle.std.specs.Int.Signed.{lt_z, le_z}
use Rattle.laws.specs.Choice.{when◌then◌else◌}

-- "21 class counts", of classes 0 to 20
abbrev pub class_count : ℕ
class_count = 21

abbrev pub last_class : ℕ
last_class = 20

-- the lowest net of a class, from class 1 on: class 10 begins at target - 5, and each class is 11 wide
abbrev pub lowest : ℕ → ℤ → ℤ
lowest k target = target -ℤ pos 5 +ℤ (pos (11 * k) -ℤ pos 110)

-- the highest net of a class, up to class 19
abbrev pub highest : ℕ → ℤ → ℤ
highest k target = lowest k target +ℤ pos 10

-- "class 10 holds net from target - 5 to target + 5, classes 1 to 9 and 11 to 19 are 11 wide, classes 0 and 20 hold the rest below and above."
unfoldable pub holds : ℕ → ℤ → ℤ → Bool
holds k net target = (eqb k 0 || le_z (lowest k target) net) && (eqb k last_class || le_z net (highest k target))

-- how far a net is above the place where class 0 would begin if it were 11 wide too
abbrev pub above : ℤ → ℤ → ℤ
above net target = net -ℤ target +ℤ pos 115

-- the class of a net: whole widths from there on, cut to 0 to 20
unfoldable pub class_of : ℤ → ℤ → ℕ
class_of net target = when lt_z (above net target) (pos 0) then 0 else min last_class (nat_abs (above net target) / 11)
