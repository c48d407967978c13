-- With no margin each sample is its own, so the set has the one outcome of step 6. Assumes nothing.
use mathlib.Core.Path.{◌≡◌, refl, sym, ap, ap₂, ◌∙◌}
use mathlib.Core.Bool.{true}
use mathlib.Core.List.{List, [], ◌∷◌}
use native.Mathlib.Omega.{arith}
use lib.IntN.{ℤ}
use borrow.Author.Differences.{ints}
use Rattle.lists.specs.Each.{all_of}
use Rattle.weight.specs.Weight.{is_weight}
use Rattle.laws.proofs.Tests.{both}
use Rattle.possible.specs.Outcome.{outcome_of}
use Rattle.possible.specs.Answer.{Near, none, more, all_weights}
use Rattle.possible.specs.Exact.{Exact}

own : {xs ys : List ℤ} → Near 0 xs ys → ys ≡ xs
own none = refl
own (more {x = x} {y = y} c n) = ap₂ ◌∷◌ (omega (arith, ints, c.near)) (own n)

itself : (xs : List ℤ) → all_weights xs ≡ true → Near 0 xs xs
unfolding all_of
itself [] h = none
itself (x ∷ xs) h =
    let b = both (is_weight x) (all_weights xs) h in
    more {x = x} {y = x} (record { near = omega (arith, ints); weight = b.0 }) (itself xs b.1)

pub exact : Exact
exact s xs k w =
    (λ c. ap (outcome_of s) (sym (own c.near)) ∙ c.gives, λ e. record { samples = xs; near = itself xs w; gives = e })
