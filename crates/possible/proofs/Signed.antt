-- The code's signed numbers, held as bits: what the tactics need of them, and how large some are. Assumes nothing.
use mathlib.Core.Path.{◌≡◌}
use mathlib.Core.Bool.{true}
use Prim.Native.Nat.{ℕ, ◌+◌, ◌≤◌}
use native.Mathlib.Omega.{arith}
use lib.IntN.{ℤ, pos, neg_ℤ, nat_abs, ◌+ℤ◌, ◌-ℤ◌}
use mir.Syntax.{w64}
use mir.Val.{to_z, of_z}
use borrow.Author.Tests.{leb-true}
use Rattle.std.specs.Int.{int_max}
use Rattle.std.proofs.lemmas.Int.{ints, clamps, to_z-of_z}
use Rattle.weight.specs.Weight.{largest_weight}
use Rattle.settings.specs.Settings.{record_fit}
use Rattle.settings.specs.declared.Settings.{Settings}
use Rattle.settings.proofs.Facts.{loads}
use Rattle.possible.specs.Answer.{widest}
use Rattle.possible.specs.Bounds.{undismissed}

pub ruleset signed = (ints, clamps, to_z-of_z, leb-true)

-- of a fit record nearzero and tare, and the least mean that is not dismissed
pub loads-size : (s : Settings) → record_fit s ≡ true → (nat_abs s.nearzero ≤ largest_weight) × (nat_abs s.tare ≤ largest_weight)
loads-size s f = let l = loads s f in (grind (arith, signed), grind (arith, signed))

pub undismissed_is : (low nearzero : ℤ) → undismissed low nearzero ≡ int_max low (nearzero +ℤ pos 1)
unfolding undismissed
undismissed_is low z = grind (arith, ints)

pub undismissed-size : (low nearzero : ℤ) → nat_abs low ≤ largest_weight → nat_abs nearzero ≤ largest_weight → nat_abs (undismissed low nearzero) ≤ largest_weight + 1
undismissed-size low z h g = omega (arith, ints, clamps, undismissed_is low z)

-- the margin, and less it
pub margin_is : (e : ℕ) → e ≤ widest → to_z w64 e ≡ pos e
margin_is e h = omega (arith, ints)

pub less_margin : (e : ℕ) → e ≤ widest → to_z w64 (of_z w64 (pos 0 -ℤ to_z w64 e)) ≡ neg_ℤ (pos e)
less_margin e h = omega (arith, ints)
