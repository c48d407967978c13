-- What a test that was passed tells. Assumes nothing.
use mathlib.Core.Path.{◌≡◌, refl, sym, subst}
use mathlib.Core.Bool.{Bool, true, false, ◌&&◌, ◌||◌}
use Prim.Native.Nat.{ℕ}
use native.Mathlib.Omega.{arith}
use lib.Dec.{T}
use Rattle.laws.specs.Choice.{when◌then◌else◌}

-- both sides of a passed `&&`
pub both : (a b : Bool) → a && b ≡ true → (a ≡ true) × (b ≡ true)
both true b h = (refl, h)
both false b h = absurd (subst T (sym h) tt)

pub and_intro : {a b : Bool} → a ≡ true → b ≡ true → a && b ≡ true
and_intro p q = rw (p, q)

-- both sides of a failed `||`
pub neither : (a b : Bool) → a || b ≡ false → (a ≡ false) × (b ≡ false)
neither true b h = absurd (subst T h tt)
neither false b h = (refl, h)

-- to show a thing of a choice, show it of both sides, each with what the test said
pub if_ind : {A : Type 0} (P : A → Type 0) (b : Bool) (x y : A) → (b ≡ true → P x) → (b ≡ false → P y) → P (when b then x else y)
if_ind P true x y f g = f refl
if_ind P false x y f g = g refl

-- to show a thing, show it of both answers of a test
pub by_cases : {A : Type 0} (b : Bool) → (b ≡ true → A) → (b ≡ false → A) → A
by_cases true f g = f refl
by_cases false f g = g refl

-- 0 is not 1: what follows where two different variants are said to be one, whose tags `cc` compares
pub clash : {A : Type 0} → ◌≡◌ {A = ℕ} 0 1 → A
clash z = absurd (omega arith)

-- a test that both failed and was passed
pub never : {A : Type 0} → ◌≡◌ {A = Bool} false true → A
never h = absurd (subst T (sym h) tt)
