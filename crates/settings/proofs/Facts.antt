-- What a fit settings record tells of a net weight under it. Assumes nothing.
use mathlib.Core.Path.{◌≡◌, refl, sym, subst}
use mathlib.Core.Bool.{Bool, true, false, cond, ◌&&◌}
use Prim.Native.Nat.{ℕ, zero, suc, ◌-◌, ◌≤◌}
use native.Mathlib.Omega.{arith}
use lib.Dec.{T, leb, ltb}
use lib.IntN.{ℤ, pos, negsuc, nat_abs, ◌-ℤ◌}
use lib.Signed.{le_z}
use borrow.Author.Tests.{leb-true, ltb-true, le-leb}
use Rattle.weight.specs.Weight.{is_weight}
use Rattle.laws.proofs.Tests.{both}
use Rattle.settings.specs.Settings.{is_load, record_ranged, limits_ordered, record_fit}
use Rattle.settings.specs.declared.Settings.{Settings}

pub record Loads (s : Settings) : Type 0 where
  pub nearzero : is_load s.nearzero ≡ true
  pub tare : is_load s.tare ≡ true

-- the tests before those of nearzero and tare
abbrev limits : Settings → Bool
limits s = is_weight s.target && is_weight s.lolo && is_weight s.lo && is_weight s.hi && is_weight s.hihi

pub loads : (s : Settings) → record_fit s ≡ true → Loads s
unfolding record_ranged
loads s h =
    let r = both (record_ranged s) (limits_ordered s) h in
    let a = both (limits s && is_load s.nearzero) (is_load s.tare) r.0 in
    let b = both (limits s) (is_load s.nearzero) a.0 in
    record { nearzero = b.1; tare = a.1 }

-- a difference of two numbers from 0 on is no larger than the larger one
difference : (a b k : ℕ) → a ≤ k → b ≤ k → nat_abs (pos a -ℤ pos b) ≤ k
difference a zero k p q = omega arith
difference a (suc b) k p q = go (ltb a (suc b)) refl
  where
    go : (t : Bool) → ltb a (suc b) ≡ t → nat_abs (cond t (negsuc (suc b - suc a)) (pos (a - suc b))) ≤ k
    go true h = omega (arith, ltb-true a (suc b) h)
    go false h = omega arith

load_is : (z : ℤ) → is_load z ≡ true → (n : ℕ) × (z ≡ pos n) × (n ≤ 999999)
load_is (pos n) h = (n, refl, leb-true n 999999 (both (leb 0 n) (leb n 999999) h).1)
load_is (negsuc n) h = absurd (subst T (sym h) tt)

-- a mean above nearzero is above 0
mean-is : (m z : ℤ) → is_load z ≡ true → is_weight m ≡ true → le_z m z ≡ false → (n : ℕ) × (m ≡ pos n) × (n ≤ 999999)
mean-is (pos n) z l w h = (n, refl, leb-true n 999999 w)
mean-is (negsuc n) z l w h =
    let k = load_is z l in absurd (subst T (rw k.1 at h) tt)

less-tare : (m t : ℤ) → (n : ℕ) × (m ≡ pos n) × (n ≤ 999999) → (n : ℕ) × (t ≡ pos n) × (n ≤ 999999) → is_weight (m -ℤ t) ≡ true
less-tare m t a b = rw (a.1, b.1) (le-leb _ _ (difference a.0 b.0 999999 a.2 b.2))

-- so the net weight of a box that is not dismissed is a weight
pub net-weight : (s : Settings) (m : ℤ) → record_fit s ≡ true → is_weight m ≡ true → le_z m s.nearzero ≡ false → is_weight (m -ℤ s.tare) ≡ true
net-weight s m f w h =
    let l = loads s f in
    less-tare m s.tare (mean-is m s.nearzero l.nearzero w h) (load_is s.tare l.tare)
