-- What a private step gives.
use Rattle.std.specs.Prelude.{ℕ}

-- the largest number of 64 bits, where a sum is cut
abbrev pub most : ℕ
most = 18446744073709551615
