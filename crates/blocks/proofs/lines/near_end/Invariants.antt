-- What the loop keeps.
use mathlib.Core.Path.{◌≡◌}
use Rattle.std.specs.Iterator.Adapters.{enumerate_source, enumerate_count}
use Rattle.std.specs.Slice.Iter.{chunks_exact_rest, chunks_exact_size}
use Rattle.blocks.proofs.Ends.{GoesOnFrom}
use Rattle.blocks.proofs.lines.near_end.Given as goal

abbrev pub invariant-loop-k : goal.invariant-loop-k
invariant-loop-k l =
    (chunks_exact_size (enumerate_source l.k-iterator) ≡ 16)
    × GoesOnFrom l.input l.start (enumerate_count l.k-iterator) (chunks_exact_rest (enumerate_source l.k-iterator))
