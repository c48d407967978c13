-- 01, "Events", step 6, and "The sheet's figures": a sum over a number, "to the nearest, halves away from zero".
use Rattle.std.specs.Prelude.{ℕ, ◌+◌, ◌*◌, ◌/◌, ◌%◌, leb, eqb, ℤ, pos, negsuc, neg_ℤ, nat_abs, Option, Some, None}
use Rattle.laws.specs.Choice.{when◌then◌else◌}

-- m over n: the whole quotient, and one more from half on
unfoldable pub nearest : ℕ → ℕ → ℕ
nearest m n = when leb n (2 * (m % n)) then m / n + 1 else m / n

-- q with the sign of z
abbrev pub with_sign : ℤ → ℕ → ℤ
with_sign (pos a) q = pos q
with_sign (negsuc a) q = neg_ℤ (pos q)

-- s over n to the nearest, halves away from zero
unfoldable pub rounded : ℤ → ℕ → ℤ
rounded s n = with_sign s (nearest (nat_abs s) n)

-- a mean is none where there is nothing to divide by
abbrev pub mean_of : ℤ → ℕ → Option ℤ
mean_of s n = when eqb n 0 then None else Some (rounded s n)
