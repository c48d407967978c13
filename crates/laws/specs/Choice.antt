-- How the definitions choose: by a test that computes.
use Rattle.std.specs.Prelude.{ℕ, Bool, true, false, ◌&&◌, leb}

infix 10 when◌then◌else◌
abbrev pub when◌then◌else◌ : {A : Type 0} → Bool → A → A → A
when◌then◌else◌ true x y = x
when◌then◌else◌ false x y = y

-- low to high, both included
abbrev pub within : ℕ → ℕ → ℕ → Bool
within low high n = leb low n && leb n high

-- 1 if so, else 0
abbrev pub bit : Bool → ℕ
bit true = 1
bit false = 0
