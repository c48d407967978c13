-- `ticked`: the waits before this one have fallen, and those left stand packed. Assumes nothing.
use borrow.Author.Rules.{rules}
use borrow.Author.Tests.{eq-eqb, ne_eqb}
use mathlib.Core.Bool.{true, false}
use mathlib.Core.List.{List}
use mathlib.Core.Path.{◌≡◌, sym, ◌∙◌}
use Prim.Native.Nat.{ℕ}
use native.Mathlib.Omega.{arith}
use lib.ListN.{get_or, take}
use lib.Seq.{take_all}
use Rattle.lists.proofs.Places.{Packing, none-packed, packed-stays, packed-leaves}
use Rattle.time.specs.Time.{fallen, ended}
use Rattle.queue.specs.Queue.{places, waits_of, laid, is_empty, queue_ticked}
use Rattle.queue.specs.declared.Queue.{Queue}
use Rattle.queue.proofs.Waits.{few_waits}
use Rattle.queue.proofs.Queue.ticked.Goals as goal
use Rattle.queue.proofs.Queue.ticked.Goals.{then-wait-gt-LAST_TICK, else-wait-gt-LAST_TICK}

pub returns-then-is_empty : goal.returns-then-is_empty
unfolding queue_ticked
returns-then-is_empty c =
    let e : is_empty c.args.self ≡ true = sym c.is_empty.ensures ∙ c.if-is_empty.true in
    rw e

pub loop-wait-init : goal.loop-wait-init
loop-wait-init c = (rw c.taken-wait-items.ensures (few_waits c.args.self (search rules)), none-packed places 0 ended fallen c.taken-wait-items.result.now)

-- a wait above 1 falls and stays, any other leaves
pub loop-wait-preserved : goal.loop-wait-preserved
loop-wait-preserved c =
    let l = c.loop-wait in
    let w = c.taken-wait-items.result.now in
    let x = get_or w l.wait-index 0 in
    elim c.if-wait-gt-LAST_TICK.branch [
      | then-wait-gt-LAST_TICK t ↦ (
        l.invariant.0,
        rw (t.left-is, t.k-is) (packed-stays places 0 ended fallen w l.wait-index l.left l.k l.invariant.1 (omega arith) (omega arith) (ne_eqb (fallen x) 0 (λ e. omega (arith, t.if-wait-gt-LAST_TICK.true)))),
      )
      | else-wait-gt-LAST_TICK t ↦ (
        l.invariant.0,
        rw (t.left-is, t.k-is) (packed-leaves places 0 ended fallen w l.wait-index l.left l.k l.invariant.1 (omega arith) (eq-eqb (fallen x) 0 (omega (arith, t.if-wait-gt-LAST_TICK.false)))),
      )
    ]

-- all the waits packed, and their number
packed_laid : (q : Queue) (w left : List ℕ) (i k : ℕ) → is_empty q ≡ false → take i w ≡ waits_of q → Packing places 0 ended fallen w i left k
    → ◌≡◌ {A = Queue} (record { waits = left; n = k }) (queue_ticked q)
unfolding queue_ticked laid
packed_laid q w left i k e t p = rw (e, p.held, p.count, t)

pub returns : goal.returns
returns c =
    let l = c.loop-wait in
    let w = c.taken-wait-items.result.now in
    packed_laid c.args.self w l.left l.wait-index l.k
    (sym c.is_empty.ensures ∙ c.if-is_empty.false)
    (take_all l.wait-index w (omega arith) ∙ c.taken-wait-items.ensures)
    l.invariant.1
