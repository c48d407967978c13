-- What a call on all of an input answers.
use Rattle.std.specs.Prelude.{ℕ, ◌≤◌, ◌≡◌, List, length, take, ℤ, pos, negsuc}
use Rattle.controller.specs.Input.{program}

-- the first n bytes of the output are what 01 says is printed over the input
abbrev pub Printed : List ℕ → List ℕ → ℕ → Type 0
Printed input out n = (n ≤ length out) × (take n out ≡ program input)

-- -1
abbrev pub no_room : ℤ
no_room = negsuc 0

-- so many bytes are printed, or there is no room
abbrev pub Answered : List ℕ → List ℕ → ℤ → Type 0
Answered input out (pos n) = Printed input out n
Answered input out (negsuc n) = negsuc n ≡ no_room
