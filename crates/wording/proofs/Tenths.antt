-- A spread's text without its point is read as its tenths. Assumes nothing.
use Prim.Native.Nat.{ℕ, ◌+◌, ◌*◌, ◌/◌, ◌%◌}
use mathlib.Core.Path.{◌≡◌, refl, ◌∙◌}
use mathlib.Core.Bool.{false}
use mathlib.Core.List.{List, [], ◌∷◌, ◌++◌}
use native.Mathlib.Omega.{arith}
use lib.IntN.{pos}
use borrow.Author.Tests.{ne_eqb}
use Rattle.lists.specs.Each.{without}
use Rattle.lists.proofs.Each.{without_more}
use Rattle.decimal.specs.Number.{decimal}
use Rattle.decimal.proofs.Digits.{decimal_digit, by_digits}
use Rattle.numeral.specs.Number.{some, digits}
use Rattle.std.specs.Prelude.{Some}
use Rattle.print.specs.Sheet.{spread_text}
use Rattle.wording.specs.Tenths.{point, without_point}
use Rattle.wording.proofs.Inverse.{digits-one, digits_of_text}

-- no digit is a point
digit-stays : (d : ℕ) → without_point ((48 + d) ∷ []) ≡ (48 + d) ∷ []
unfolding without
digit-stays d = rw (ne_eqb (48 + d) point (λ e. omega arith))

digits_stay : (n : ℕ) → without_point (decimal n) ≡ decimal n
digits_stay =
    by_digits (λ (n : ℕ) (l : List ℕ). without_point l ≡ l)
    (λ n lt. digit-stays n)
    (λ n ge rest. without_more _ (decimal (n / 10)) ((48 + n % 10) ∷ []) ∙ rw (rest, digit-stays (n % 10)))

point_goes : (t : List ℕ) → without_point (point ∷ t) ≡ without_point t
unfolding without
point_goes t = refl

pub read_back : (s : ℕ) → digits false 0 (without_point (spread_text (Some s))) ≡ some (pos s) []
read_back s =
    let e : s / 10 * 10 + s % 10 ≡ s = omega arith in
    let t : without_point (spread_text (Some s)) ≡ decimal (s / 10) ++ decimal (s % 10) =
    without_more _ (decimal (s / 10)) (point ∷ decimal (s % 10)) ∙ rw (point_goes (decimal (s % 10)), digits_stay (s / 10), digits_stay (s % 10)) in
    rw (t, digits_of_text false (s / 10) (decimal (s % 10)), decimal_digit (s % 10) (omega arith), digits-one false (s / 10) (s % 10) [] (omega arith), e)
