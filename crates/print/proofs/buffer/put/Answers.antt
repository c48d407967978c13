-- `put` copies the text to its part of the buffer. Assumes nothing.
use Prim.Native.Nat.{◌+◌, ◌-◌}
use mathlib.Core.Path.{refl}
use native.Mathlib.Omega.{arith}
use lib.ListN.{length}
use Rattle.print.proofs.Put.{put_part}
use Rattle.print.proofs.buffer.put.Goals as goal

pub returns : goal.returns
returns c =
    let a = c.args in
    record {
      bytes = put_part a.out.now a.at (a.at + length a.text.now - a.at) _ a.text.now c.copy_from_slice.ensures.after (omega arith);
      place = refl;
      fits = c.requires;
      short = omega arith;
    }
