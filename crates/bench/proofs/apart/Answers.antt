-- `apart`: the largest and the smallest of the grosses before this one. Assumes nothing.
use borrow.Author.Rules.{rules}
use mathlib.Core.Path.{◌≡◌, sym, ◌∙◌}
use mathlib.Core.List.{List}
use mathlib.Core.Bool.{true}
use native.Mathlib.Omega.{arith}
use mir.Syntax.{w64}
use mir.Val.{to_z, of_z, SFits}
use borrow.Author.Tests.{leb-true}
use lib.IntN.{ℤ, pos, nat_abs, ◌-ℤ◌}
use lib.ListN.{length, get_or, take, drop, length-drop}
use lib.Seq.{take_all}
use Rattle.std.specs.Int.{int_max, int_min}
use Rattle.laws.proofs.Signed.{back, abs_sub, sfits_abs}
use Rattle.lists.specs.Each.{all_of, folded}
use Rattle.lists.proofs.Each.{folded-next, folded-end}
use Rattle.weight.specs.Weight.{largest_weight, is_weight}
use Rattle.bench.specs.Bench.{last_ticks, largest_of, smallest_of}
use Rattle.bench.proofs.Grosses.{largest_weight_lem, smallest-weight, largest-first, smallest-first}
use Rattle.bench.proofs.apart.Goals as goal

-- the first, and all behind it
module _ (l : List ℤ) (h : length l ≡ last_ticks) where
  behind : take 9 (drop 1 l) ≡ drop 1 l
  behind = take_all 9 (drop 1 l) (omega (arith, length-drop 1 l))

  largest_behind : largest_of l ≡ folded int_max (get_or l 0 (pos 0)) (take 9 (drop 1 l))
  largest_behind = rw behind (largest-first l (omega arith))

  smallest_behind : smallest_of l ≡ folded int_min (get_or l 0 (pos 0)) (take 9 (drop 1 l))
  smallest_behind = rw behind (smallest-first l (omega arith))

pub loop-gross-init : goal.loop-gross-init
loop-gross-init c =
    let w = c.args.grosses in
    let ten : length w ≡ last_ticks = search rules in
    rw (back (get_or w 0 (pos 0)) (search rules)) (largest_behind w ten, smallest_behind w ten)

pub loop-gross-preserved : goal.loop-gross-preserved
loop-gross-preserved c =
    let l = c.loop-gross in
    let w = take 9 (drop 1 c.args.grosses) in
    let x = get_or w l.gross-index (pos 0) in
    let gross : to_z w64 (of_z w64 x) ≡ x = search rules in
    let more = rw gross at c.max-largest.ensures.value in
    let less = rw gross at c.min-smallest.ensures.value in (
      rw (back c.max-largest.result c.max-largest.type_inv, more) (l.invariant.0 ∙ folded-next int_max w l.gross-index (to_z w64 l.largest-bits) (pos 0) (omega arith)),
      rw (back c.min-smallest.result c.min-smallest.type_inv, less) (l.invariant.1 ∙ folded-next int_min w l.gross-index (to_z w64 l.smallest-bits) (pos 0) (omega arith)),
    )

-- the largest and the smallest are weights, so what is between them is a number
fits : (w : List ℤ) → all_of is_weight w ≡ true → SFits w64 (largest_of w -ℤ smallest_of w)
fits w h =
    sfits_abs (largest_of w -ℤ smallest_of w)
    (omega (
      arith,
      abs_sub (largest_of w) (smallest_of w),
      leb-true (nat_abs (largest_of w)) largest_weight (largest_weight_lem w h),
      leb-true (nat_abs (smallest_of w)) largest_weight (smallest-weight w h),
    ))

pub overflow_sub-result : goal.overflow_sub-result
overflow_sub-result c =
    let l = c.loop-gross in
    let g = c.args.grosses in
    let w = take 9 (drop 1 g) in
    let more = l.invariant.0 ∙ folded-end int_max w l.gross-index (to_z w64 l.largest-bits) (omega arith) in
    let less = l.invariant.1 ∙ folded-end int_min w l.gross-index (to_z w64 l.smallest-bits) (omega arith) in
    rw (sym more, sym less) (fits g c.requires)

pub returns : goal.returns
returns c =
    let l = c.loop-gross in
    let g = c.args.grosses in
    let w = take 9 (drop 1 g) in
    let more = l.invariant.0 ∙ folded-end int_max w l.gross-index (to_z w64 l.largest-bits) (omega arith) in
    let less = l.invariant.1 ∙ folded-end int_min w l.gross-index (to_z w64 l.smallest-bits) (omega arith) in
    rw (sym more, sym less) (back (largest_of g -ℤ smallest_of g) (fits g c.requires).sfits)
