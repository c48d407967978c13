-- What stands behind the bytes that are held, once more was read. Assumes nothing.
--     fills_more     bytes were read
--     fills-end      none was read, and an LF ends the bytes that are held
use mathlib.Core.Path.{◌≡◌, refl, sym, ap, ◌∙◌}
use mathlib.Core.Bool.{true, false}
use mathlib.Core.List.{List, [], ◌∷◌, ◌++◌}
use Prim.Native.Nat.{ℕ, zero, suc, ◌+◌, ◌≤◌, ◌<◌}
use native.Mathlib.Omega.{arith}
use native.Mathlib.Numerals.{add-one}
use lib.ListN.{length, take, drop, set, length-drop, length-set}
use lib.Seq.{take-add, take-suc-set, length-take-le}
use Rattle.std.specs.Prelude.{Option, None, Some}
use Rattle.laws.proofs.Tests.{never}
use Rattle.decimal.specs.Bytes.{lf}
use Rattle.blocks.specs.declared.left.Left.{Left}
use Rattle.blocks.specs.Left.{standing, is_over, last_of, count_of, at_end, ReadBehind, Filled}

none_counted_lem : (got : Option ℕ) → is_over (standing got) ≡ true → count_of got ≡ 0
none_counted_lem (Some zero) h = refl
none_counted_lem (Some (suc k)) h = never h
none_counted_lem None h = refl

ends_it : (held : List ℕ) → 0 < length held → at_end held ≡ lf ∷ []
ends_it [] h = absurd (omega (arith, h))
ends_it (b ∷ t) h = refl

module _ (before after : List ℕ) (held : ℕ) (l : Left) (r : ReadBehind before held l after) where
  pub fills_more : last_of l ≡ false → Filled (take held before) l after
  fills_more more =
      let count = count_of r.got in
      let w : held + count ≤ length after = let e = r.counted in let h = r.within in omega (arith, e, h) in
      let n = length-drop held after in
      record {
        got = r.got;
        new = take count (drop held after);
        stands = r.stands;
        counted = length-take-le count (drop held after) (omega (arith, w, n));
        order = let e = r.first in omega (arith, e);
        within = r.within;
        bytes = rw (r.first, r.counted, more) (take-add held count after ∙ ap (λ (t : List ℕ). t ++ take count (drop held after)) r.held_stay);
      }

  module _ (over : last_of l ≡ true) where
    none : count_of r.got ≡ 0
    none = none_counted_lem r.got (ap is_over (sym r.stands) ∙ over)

    pub fills-end : 0 < held → held < length before → length after ≡ length before → Filled (take held before) (record { start = 0; end = held + 1; over = l.over }) (set after held lf)
    fills-end some small same =
        let m = length-set after held lf in
        let held-length = length-take-le held before (omega (arith, small)) in
        record {
          got = r.got;
          new = [];
          stands = r.stands;
          counted = sym none;
          order = omega arith;
          within = omega (arith, m, small, same);
          bytes =
              rw (over, ends_it (take held before) (omega (arith, held-length, some)), add-one held)
              (take-suc-set after held lf (omega (arith, small, same)) ∙ ap (λ (t : List ℕ). t ++ lf ∷ []) r.held_stay);
        }
