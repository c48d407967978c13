-- `on_bits`: the bits of the sorters so far, the first of them highest. Assumes nothing.
use borrow.Author.Rules.{rules}
use mathlib.Core.Path.{◌≡◌, refl}
use mathlib.Core.Bool.{Bool, true, false}
use mathlib.Core.List.{List, [], ◌∷◌, ◌++◌, map, reverse, map-append}
use Prim.Native.Nat.{ℕ, ◌+◌, ◌*◌, ◌<◌, ◌≤◌}
use native.Mathlib.Omega.{arith}
use lib.Dec.{ltb}
use lib.ListN.{length, length-map}
use mir.Val.{bool_byte}
use Rattle.std.proofs.lemmas.List.{reverse-append, length-reverse}
use Rattle.std.proofs.lemmas.Iterator.Adapters.{YieldsList-from_rev_slice}
use Rattle.std.proofs.lemmas.Iterator.Consumers.{YieldsList-turn}
use Rattle.laws.specs.Choice.{bit}
use Rattle.device.specs.declared.sorter.Sorter.{Sorter}
use Rattle.event.specs.Setup.{sorter_count}
use Rattle.sorters.specs.Sorters.{on_bit, on_bits}
use Rattle.sorters.proofs.Keeps.{bits_below}
use Rattle.sorters.proofs.on_bits.Goals as goal

byte-is : (b : Bool) → bool_byte b ≡ bit b
byte-is true = refl
byte-is false = refl

-- one sorter more, from the last to the first
next : (ss : List Sorter) (s : Sorter) (b bits : ℕ) → b ≡ bool_byte (ltb 0 s.on) → bits ≡ on_bits (reverse ss) → b + 2 * bits ≡ on_bits (reverse (ss ++ s ∷ []))
unfolding on_bits on_bit
next ss s b bits e h = rw (reverse-append ss (s ∷ []), e, byte-is (ltb 0 s.on), h)

byte_le : (b : Bool) → bool_byte b ≤ 1
byte_le true = omega arith
byte_le false = omega arith

-- of fewer than six they are below 2^6
small : (ss all : List Sorter) (bits : ℕ) → length ss < length (reverse all) → length all ≡ sorter_count → bits ≡ on_bits (reverse ss) → bits < 64
small ss all bits h six e =
    omega (arith, e, bits_below (reverse ss) sorter_count (omega (arith, length-reverse ss, length-reverse all)))

pub loop-sorter-init : goal.loop-sorter-init
unfolding on_bits
loop-sorter-init c = refl

pub overflow_mul-bits : goal.overflow_mul-bits
overflow_mul-bits c =
    let l = c.loop-sorter in
    let so_far = map (λ s. s.now) l.yielded in
    let t = YieldsList-turn (YieldsList-from_rev_slice c.args.sorters (cc)) l.yielded _ l.yielded_by _ _ c.in-Some.sorter c.in-Some.is c.next.ensures.steps in
    let few = small so_far c.args.sorters l.bits (rw length-map t.0) (search rules) l.invariant in
    omega (arith, few)

pub overflow_add-bits : goal.overflow_add-bits
overflow_add-bits c =
    let l = c.loop-sorter in
    let so_far = map (λ s. s.now) l.yielded in
    let t = YieldsList-turn (YieldsList-from_rev_slice c.args.sorters (cc)) l.yielded _ l.yielded_by _ _ c.in-Some.sorter c.in-Some.is c.next.ensures.steps in
    let few = small so_far c.args.sorters l.bits (rw length-map t.0) (search rules) l.invariant in
    omega (arith, few, c.from.ensures, byte_le (ltb 0 c.in-Some.sorter.now.on))

pub loop-sorter-preserved : goal.loop-sorter-preserved
loop-sorter-preserved c =
    let l = c.loop-sorter in
    rw map-append (next (map (λ s. s.now) l.yielded) c.in-Some.sorter.now c.from.result l.bits c.from.ensures l.invariant)
