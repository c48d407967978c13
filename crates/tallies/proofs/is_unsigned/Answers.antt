-- `is_unsigned` tests the ten numbers that have no sign. Assumes nothing.
use borrow.Author.Rules.{rules}
use borrow.Author.Tests.{tests}
use mathlib.Core.Path.{◌≡◌}
use mathlib.Core.Bool.{◌&&◌, and_assoc}
use mathlib.Core.List.{List, [], ◌∷◌}
use Prim.Native.Nat.{◌≤◌}
use native.Mathlib.Omega.{arith}
use lib.IntN.{ℤ, pos}
use lib.Signed.{le_z}
use lib.ListN.{length, get_or, take}
use Rattle.std.specs.List.{list_all}
use Rattle.std.proofs.lemmas.Iterator.{YieldsList-from_slice}
use Rattle.std.proofs.lemmas.Iterator.Search.{all_from_yields_List}
use Rattle.laws.proofs.Signed.{back}
use Rattle.tallies.specs.Memory.{unsigned}
use Rattle.tallies.proofs.is_unsigned.Goals as goal

-- the first nine and the eleventh
nine : (p : List ℤ) → 13 ≤ length p → (list_all (le_z (pos 0)) (take 9 p) && le_z (pos 0) (get_or p 10 (pos 0))) ≡ unsigned p
unfolding unsigned
nine [] h = absurd (omega (arith, h))
nine (a ∷ []) h = absurd (omega (arith, h))
nine (a ∷ b ∷ []) h = absurd (omega (arith, h))
nine (a ∷ b ∷ c ∷ []) h = absurd (omega (arith, h))
nine (a ∷ b ∷ c ∷ d ∷ []) h = absurd (omega (arith, h))
nine (a ∷ b ∷ c ∷ d ∷ e ∷ []) h = absurd (omega (arith, h))
nine (a ∷ b ∷ c ∷ d ∷ e ∷ f ∷ []) h = absurd (omega (arith, h))
nine (a ∷ b ∷ c ∷ d ∷ e ∷ f ∷ g ∷ []) h = absurd (omega (arith, h))
nine (a ∷ b ∷ c ∷ d ∷ e ∷ f ∷ g ∷ i ∷ []) h = absurd (omega (arith, h))
nine (a ∷ b ∷ c ∷ d ∷ e ∷ f ∷ g ∷ i ∷ j ∷ p) h = simp and_assoc

pub returns : goal.returns
returns c =
    let p = c.args.p.now in
    let each = all_from_yields_List (le_z (pos 0)) _ _ c.all.result c.all.ensures.ran (YieldsList-from_slice (take 9 p) (cc)) (λ x b q k. search (rules, tests)) in
    rw (each, back (get_or p 10 (pos 0)) (search rules)) (nine p c.requires)
