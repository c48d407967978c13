-- `keep` moves what is left to the front. Assumes nothing.
use native.Mathlib.Omega.{arith}
use Rattle.blocks.proofs.Moves.{moved_same, moved_front}
use Rattle.blocks.proofs.left.keep.Goals as goal

pub returns : goal.returns
returns c =
    let a = c.args in
    let last = c.min-last.ensures in
    let first = c.min-first.ensures in
    let n = c.min-n.ensures in
    let same = moved_same a.input.now a.start a.end in
    let front = moved_front a.input.now a.start a.end in
    (omega (arith, n), c.copy_within.ensures.len, rw (c.copy_within.ensures.after, n, first, last) front)
