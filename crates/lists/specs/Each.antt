-- A test or a rule of one element, applied to a list of them; and of one with its partner in a second list.
use Rattle.std.specs.Prelude.{ℕ, ◌+◌, Bool, true, false, ◌&&◌, ◌||◌, List, [], ◌∷◌}
use Rattle.laws.specs.Choice.{when◌then◌else◌, bit}

-- one of the list passes
unfoldable pub any_of : {A : Type 0} → (A → Bool) → List A → Bool
any_of p [] = false
any_of p (x ∷ xs) = p x || any_of p xs

-- all of the list pass
unfoldable pub all_of : {A : Type 0} → (A → Bool) → List A → Bool
all_of p [] = true
all_of p (x ∷ xs) = p x && all_of p xs

-- one of the list passes with its partner
unfoldable pub any_pair : {A B : Type 0} → (A → B → Bool) → List A → List B → Bool
any_pair p [] ys = false
any_pair p (x ∷ xs) [] = false
any_pair p (x ∷ xs) (y ∷ ys) = p x y || any_pair p xs ys

-- a rule of one with its partner, at each of the list
unfoldable pub each_pair : {A B : Type 0} → (A → B → A) → List A → List B → List A
each_pair f [] ys = []
each_pair f (x ∷ xs) [] = x ∷ xs
each_pair f (x ∷ xs) (y ∷ ys) = f x y ∷ each_pair f xs ys

-- how many of the list pass
unfoldable pub counted : {A : Type 0} → (A → Bool) → List A → ℕ
counted p [] = 0
counted p (x ∷ xs) = bit (p x) + counted p xs

-- the list without those that pass
unfoldable pub without : {A : Type 0} → (A → Bool) → List A → List A
without p [] = []
without p (x ∷ xs) = when p x then without p xs else x ∷ without p xs

-- the list without the first that passes
unfoldable pub without_first : {A : Type 0} → (A → Bool) → List A → List A
without_first p [] = []
without_first p (x ∷ xs) = when p x then xs else x ∷ without_first p xs

-- x and the list made one by a rule of two
unfoldable pub folded : {A : Type 0} → (A → A → A) → A → List A → A
folded f x [] = x
folded f x (y ∷ l) = folded f (f x y) l
