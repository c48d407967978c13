-- The sum of a list, and the sum of its squares.
use Rattle.std.specs.Prelude.{ℕ, ◌+◌, ◌*◌, List, [], ◌∷◌, ℤ, pos, nat_abs, ◌+ℤ◌}

unfoldable pub sum_of : List ℤ → ℤ
sum_of [] = pos 0
sum_of (x ∷ xs) = sum_of xs +ℤ x

unfoldable pub squares_of : List ℤ → ℕ
squares_of [] = 0
squares_of (x ∷ xs) = squares_of xs + nat_abs x * nat_abs x
