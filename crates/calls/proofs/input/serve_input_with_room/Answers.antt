-- `serve_input_with_room` ends; what it read and what it wrote are an input and what the program prints over it. Assumes nothing.
use mathlib.Core.Path.{refl, sym, ◌∙◌}
use native.Mathlib.Omega.{arith}
use lib.ListN.{take}
use Rattle.blocks.specs.Left.{last_of, bytes_left}
use Rattle.calls.proofs.Traced.{traced_fresh, traced-due, turns-read, took_all, took_less, turn-goes, turn-due, turn-finished, turn-reads}
use Rattle.calls.proofs.input.serve_input_with_room.Goals as goal

pub loop-init : goal.loop-init
loop-init g c =
    let p = g.C.CallsWithRoom in
    let q = g.met.C.CallsWithRoom in
    rw (c.none-left.ensures, c.fresh-calls.ensures) (
      c.large_buffer-input.ensures,
      c.filled-out.ensures,
      omega arith,
      omega arith,
      traced_fresh p.service q.cut q.quiet _,
      λ e. cc,
      refl,
    )

pub returns-then-is_last : goal.returns-then-is_last
returns-then-is_last g c =
    let p = g.C.CallsWithRoom in
    let q = g.met.C.CallsWithRoom in
    let l = c.loop in
    let n = l.invariant.0 in
    let w = l.invariant.3 in
    turn-finished p.service q.cut q.quiet _ _ l.input l.left (p.state l.calls) l.invariant.2 (omega (arith, n, w)) _ c.line_end-end.ensures l.invariant.4 c.if-last-end.true
    (sym c.is_last.ensures ∙ c.if-is_last.true) l.invariant.5 _ c.finish.result c.finish.ensures

pub loop-preserved-then-last-end : goal.loop-preserved-then-last-end
loop-preserved-then-last-end g c =
    let p = g.C.CallsWithRoom in
    let q = g.met.C.CallsWithRoom in
    let l = c.loop in
    let n = l.invariant.0 in
    let w = l.invariant.3 in
    let r = c.refilled-left in
    let drawn = r.ensures.drawn (omega (arith, n)) in
    let on = turn-reads p.service q.cut q.quiet _ _ l.input l.left (p.state l.calls) l.invariant.2 (omega (arith, n, w)) _ c.line_end-end.ensures l.invariant.4 c.if-last-end.true
    (sym c.is_last.ensures ∙ c.if-is_last.false) (omega (arith, n)) r.result r.new.input r.ensures.refilled _ drawn in
    let m = on.0 in
    let e = on.2 in
    (m ∙ n, l.invariant.1, on.1, omega (arith, m, e, n), on.3, drawn.ended, omega (arith, l.invariant.6))

pub returns-then-not-all : goal.returns-then-not-all
returns-then-not-all g c =
    let p = g.C.CallsWithRoom in
    let q = g.met.C.CallsWithRoom in
    let l = c.loop in
    let n = l.invariant.0 in
    let w = l.invariant.3 in
    let served = c.serve_line-at in
    let text = take served.result served.new.out in
    let t = c.write_out-taken in
    let less = took_less text t.result t.ensures.taken (sym c.all.ensures ∙ c.if-not-all.true) in (
      record { due = text; size = less.0; less = less.1 },
      turn-due p.service q.cut q.quiet _ _ l.input l.left (p.state l.calls) l.invariant.2 (omega (arith, n, w)) _ c.line_end-end.ensures l.invariant.4 c.if-last-end.false _ refl
          text served.ensures.says (g.W.Write.contents t.new.writer) t.result.taken t.ensures.written,
    )

pub loop-preserved : goal.loop-preserved
loop-preserved g c =
    let p = g.C.CallsWithRoom in
    let q = g.met.C.CallsWithRoom in
    let l = c.loop in
    let n = l.invariant.0 in
    let w = l.invariant.3 in
    let served = c.serve_line-at in
    let text = take served.result served.new.out in
    let t = c.write_out-taken in
    let all = took_all text t.result t.ensures.taken (sym c.all.ensures ∙ c.if-not-all.false) in
    let on = turn-goes p.service q.cut q.quiet _ _ l.input l.left (p.state l.calls) l.invariant.2 (omega (arith, n, w)) _ c.line_end-end.ensures l.invariant.4 c.if-last-end.false _ refl
    text served.ensures.says _ (rw all at t.ensures.written) (p.state served.new.calls) served.ensures.after in
    rw c.past-left.ensures (n, served.ensures.within.0, on.0, w, on.1, l.invariant.5, omega (arith, l.invariant.6))

pub returns : goal.returns
returns g c =
    let p = g.C.CallsWithRoom in
    let q = g.met.C.CallsWithRoom in
    let l = c.loop in
    let t = c.loop-test.false in
    let e = l.invariant.6 in
    let traced = l.invariant.4 in
    let left = bytes_left l.left l.input in (
      omega (arith, t, e),
      (traced-due p.service q.cut q.quiet _ _ (p.state l.calls) left (last_of l.left) traced, turns-read p.service q.cut q.quiet _ _ (p.state l.calls) left (last_of l.left) traced (omega (arith, t))),
    )

pub filled-out-requires : goal.filled-out-requires
filled-out-requires g c = let h = g.met.C.CallsWithRoom.wide.1 in omega (arith, h)
