-- `serve_input` ends; what it read and what it wrote are an input and what the program prints over it. Assumes nothing.
use mathlib.Core.Path.{◌≡◌, refl, sym, subst, ◌∙◌}
use mathlib.Core.Bool.{true, false}
use native.Mathlib.Omega.{arith}
use Prim.Native.Nat.{◌-◌, ◌^◌}
use lib.ListN.{length, take, drop}
use lib.Seq.{length-take-le}
use Rattle.line.specs.State.{state}
use Rattle.tallies.specs.Memory.{zeros}
use Rattle.controller.specs.Answer.{no_room}
use Rattle.blocks.specs.Left.{last_of, bytes_left}
use Rattle.blocks.specs.declared.left.Left.{Left}
use Rattle.sessions.proofs.Answered.{as_answered, ends_within}
use Rattle.checkweigher.proofs.Traced.{traced_fresh, traced_begun, turn-cut, turn-stays, turn-ends, turn-reads}
use Rattle.checkweigher.proofs.input.serve_input.Goals as goal

pub loop-init : goal.loop-init
unfolding zeros
loop-init g c =
    rw c.none-left.ensures (record {
      input = c.large_buffer-input.ensures;
      out = c.large_buffer-out.ensures;
      tallies = refl;
      settings = refl;
      order = omega arith;
      within = omega arith;
      turns = omega arith;
      counted = refl;
      traced = rw (c.fresh-line.ensures, c.blank-settings.ensures) (traced_fresh _);
      ended = λ e. cc;
    })

pub slice_bounds-out-end : goal.slice_bounds-out-end
slice_bounds-out-end g c =
    let l = c.loop in
    let b = c.serve_block-block in
    ends_within (state l.line l.settings l.tallies) (take (l.left.end - l.left.start) (drop l.left.start l.input)) l.out b.new.out b.result b.ensures.answer b.ensures.output

pub slice_bounds-write_out-end : goal.slice_bounds-write_out-end
slice_bounds-write_out-end g c =
    let l = c.loop in
    let b = c.serve_block-block in
    sym (length-take-le b.result.at b.new.out
    (ends_within (state l.line l.settings l.tallies) (take (l.left.end - l.left.start) (drop l.left.start l.input)) l.out b.new.out b.result b.ensures.answer b.ensures.output))

pub returns-then-not-all : goal.returns-then-not-all
returns-then-not-all g c =
    let l = c.loop in
    let b = c.serve_block-block in
    let w = c.write_out-taken in
    let n = l.invariant.input in
    turn-cut _ _ l.input b.new.out l.left (state l.line l.settings l.tallies) (state b.new.line b.new.records b.new.tallies) l.counter b.result.start b.result.at
    l.invariant.order (omega (arith, n, l.invariant.within)) l.invariant.traced
    (as_answered _ _ l.out b.result _ _ _ _ b.ensures.answer b.ensures.line b.ensures.settings b.ensures.memory b.ensures.output) w.result w.ensures.taken (sym c.all.ensures ∙ c.if-not-all.true) _ w.ensures.written

pub loop-preserved-then-no_room : goal.loop-preserved-then-no_room
loop-preserved-then-no_room g c =
    let l = c.loop in
    let b = c.serve_block-block in
    let w = c.write_out-taken in
    let n = l.invariant.input in
    let t = c.loop-test.true in
    let on =
    turn-stays _ _ l.input b.new.out l.left (state l.line l.settings l.tallies) (state b.new.line b.new.records b.new.tallies) l.counter b.result.start b.result.at
    l.invariant.order (omega (arith, n, l.invariant.within)) l.invariant.traced
    (as_answered _ _ l.out b.result _ _ _ _ b.ensures.answer b.ensures.line b.ensures.settings b.ensures.memory b.ensures.output) w.result w.ensures.taken (sym c.all.ensures ∙ c.if-not-all.false) _ w.ensures.written in
    rw c.past-left.ensures (record {
      input = n;
      out = b.auto.out ∙ l.invariant.out;
      tallies = b.auto.tallies ∙ l.invariant.tallies;
      settings = b.auto.records ∙ l.invariant.settings;
      order = on.0;
      within = l.invariant.within;
      turns = omega (arith, t);
      counted = let e = l.invariant.counted in omega (arith, e);
      traced = on.2;
      ended = l.invariant.ended;
    })

pub returns-then-is_last : goal.returns-then-is_last
returns-then-is_last g c =
    let l = c.loop in
    let b = c.serve_block-block in
    let w = c.write_out-taken in
    let n = l.invariant.input in
    let roomy : no_room (length b.new.out) b.result.at ≡ false = rw (b.auto.out, l.invariant.out, ← c.no_room.ensures) c.if-no_room.false in
    let last = subst (λ (x : Left). last_of x ≡ true) c.past-left.ensures (sym c.is_last.ensures ∙ c.if-is_last.true) in
    rw c.past-left.ensures (
      last,
      l.invariant.ended,
      turn-ends _ _ l.input b.new.out l.left (state l.line l.settings l.tallies) (state b.new.line b.new.records b.new.tallies) l.counter b.result.start b.result.at
          l.invariant.order (omega (arith, n, l.invariant.within)) l.invariant.traced
          (as_answered _ _ l.out b.result _ _ _ _ b.ensures.answer b.ensures.line b.ensures.settings b.ensures.memory b.ensures.output) w.result w.ensures.taken (sym c.all.ensures ∙ c.if-not-all.false) _ w.ensures.written
          roomy last,
    )

pub loop-preserved : goal.loop-preserved
loop-preserved g c =
    let l = c.loop in
    let b = c.serve_block-block in
    let w = c.write_out-taken in
    let r = c.refilled-left in
    let n = l.invariant.input in
    let t = c.loop-test.true in
    let roomy : no_room (length b.new.out) b.result.at ≡ false = rw (b.auto.out, l.invariant.out, ← c.no_room.ensures) c.if-no_room.false in
    let more = subst (λ (x : Left). last_of x ≡ false) c.past-left.ensures (sym c.is_last.ensures ∙ c.if-is_last.false) in
    let refilled = rw c.past-left.ensures at r.ensures in
    let on =
    turn-reads _ _ l.input b.new.out l.left (state l.line l.settings l.tallies) (state b.new.line b.new.records b.new.tallies) l.counter b.result.start b.result.at
    l.invariant.order (omega (arith, n, l.invariant.within)) l.invariant.traced
    (as_answered _ _ l.out b.result _ _ _ _ b.ensures.answer b.ensures.line b.ensures.settings b.ensures.memory b.ensures.output) w.result w.ensures.taken (sym c.all.ensures ∙ c.if-not-all.false) _ w.ensures.written
    roomy more (omega (arith, n)) r.result r.new.input refilled.refilled _ (refilled.drawn (omega (arith, n))) in
    let same = refilled.refilled.same_length in
    let m = on.1 in
    record {
      input = same ∙ n;
      out = b.auto.out ∙ l.invariant.out;
      tallies = b.auto.tallies ∙ l.invariant.tallies;
      settings = b.auto.records ∙ l.invariant.settings;
      order = on.0;
      within = omega (arith, m, n, same);
      turns = omega (arith, t);
      counted = let e = l.invariant.counted in omega (arith, e);
      traced = on.2;
      ended = on.3;
    }

pub returns : goal.returns
returns g c =
    let l = c.loop in
    let e = l.invariant.counted in
    let all : l.turns ≡ 2 ^ 64 - 1 = omega (arith, c.loop-test.false, l.invariant.turns, e) in
    (all, traced_begun _ _ (state l.line l.settings l.tallies) (bytes_left l.left l.input) (last_of l.left) l.counter l.invariant.traced (sym e))
