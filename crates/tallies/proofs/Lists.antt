-- What stands behind the first numbers of a part. Assumes nothing.
use mathlib.Core.Path.{◌≡◌, refl, ap}
use mathlib.Core.List.{List, [], ◌∷◌, map}
use Prim.Native.Nat.{ℕ, ◌-◌}
use native.Mathlib.Omega.{arith}
use lib.IntN.{ℤ}
use Rattle.lists.specs.Each.{each_pair}
use lib.ListN.{length, take, drop, length-drop}
use lib.Seq.{take_all}

-- what follows the first k, as a part of a slice is given
pub tail-is : (k : ℕ) (l : List ℤ) → take (length l - k) (drop k l) ≡ drop k l
tail-is k l = take_all (length l - k) (drop k l) (simp length-drop (omega arith))

-- where each place was given by the same place of a list as long, the list itself is there
pub each_given : {A B : Type 0} (f : B → A) (xs : List A) (ys : List B) → length xs ≡ length ys → each_pair (λ (x : A) (y : B). f y) xs ys ≡ map f ys
unfolding each_pair
each_given f [] [] h = refl
each_given f [] (y ∷ ys) h = absurd (omega arith)
each_given f (x ∷ xs) [] h = absurd (omega arith)
each_given {A} f (x ∷ xs) (y ∷ ys) h = ap (λ (l : List A). f y ∷ l) (each_given f xs ys (omega arith))
