-- 01, "Text lines": a text is a list of bytes.
use Rattle.std.specs.Prelude.{ℕ, ◌+◌, List, [], ◌∷◌}
use Prim.Native.Char.{code}
use Prim.Native.String.{String, [] as empty, ◌∷◌ as ◌then◌}

-- quoted text; its characters are ASCII, so that each is one byte
abbrev pub bytes : String → List ℕ
bytes empty = []
bytes (c then s) = code c ∷ bytes s

-- a digit from 0 to 9
abbrev pub digit_byte : ℕ → ℕ
digit_byte n = code "0" + n

-- a line reaches "up to LF"
abbrev pub lf : ℕ
lf = 10
