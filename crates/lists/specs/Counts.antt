-- Lists of counts.
use Rattle.std.specs.Prelude.{ℕ, zero, suc, ◌+◌, List, [], ◌∷◌, get_or, set}

-- all of them together
unfoldable pub add_up : List ℕ → ℕ
add_up [] = 0
add_up (x ∷ xs) = x + add_up xs

-- one more at place k
abbrev pub one_more : List ℕ → ℕ → List ℕ
one_more l k = set l k (get_or l k 0 + 1)

-- f 0, f 1 .. f (n - 1)
abbrev pub tab : {A : Type 0} → ℕ → (ℕ → A) → List A
tab zero f = []
tab (suc n) f = f 0 ∷ tab n (λ (i : ℕ). f (suc i))
