-- 01, the outcomes of a box: "A verdict (outcome 1 to 8)" in mask order, 9 dismissed, 10 abandoned.
use Rattle.std.specs.Prelude.{ℕ, Bool}
use Rattle.laws.specs.Choice.{within}

-- the grades
abbrev pub lolo : ℕ
lolo = 1

abbrev pub lo : ℕ
lo = 2

abbrev pub ok : ℕ
ok = 3

abbrev pub hi : ℕ
hi = 4

abbrev pub hihi : ℕ
hihi = 5

-- the verdicts without a grade
abbrev pub foreign : ℕ
foreign = 6

abbrev pub two_on : ℕ
two_on = 7

abbrev pub crash : ℕ
crash = 8

-- the outcomes that are no verdict
abbrev pub dismissed : ℕ
dismissed = 9

abbrev pub abandoned : ℕ
abandoned = 10

-- "A verdict (outcome 1 to 8)"
abbrev pub is_verdict : ℕ → Bool
is_verdict v = within lolo crash v

-- a graded verdict is one of 1 to 5
abbrev pub is_grade : ℕ → Bool
is_grade v = within lolo hihi v
