-- S² ≤ n·Q for every list of weights: one weight more keeps it. Assumes nothing.
use mathlib.Core.List.{[], ◌∷◌}
use Prim.Native.Nat.{zero-le}
use native.Mathlib.Numerals.{add-one}
use lib.IntN.{nat_abs, ◌+ℤ◌}
use lib.ListN.{length}
use Rattle.laws.proofs.Signed.{abs_add}
use Rattle.lists.specs.Sums.{sum_of, squares_of}
use Rattle.spread.proofs.Squares.{one_more_lem}
use Rattle.sheet.specs.Apart.{Apart}

pub apart_holds : Apart
unfolding sum_of squares_of
apart_holds [] = zero-le
apart_holds (x ∷ xs) =
    rw (← add-one)
    (one_more_lem (length xs) (squares_of xs) (nat_abs (sum_of xs)) (nat_abs x) (nat_abs (sum_of xs +ℤ x)) (apart_holds xs) (abs_add (sum_of xs) x))
