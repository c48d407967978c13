-- What the loop keeps.
use mathlib.Core.Path.{◌≡◌}
use Rattle.sorters.specs.Sorters.{on_bits}
use mathlib.Core.List.{map, reverse}
use Rattle.sorters.proofs.on_bits.Given as goal

abbrev pub invariant-loop-sorter : goal.invariant-loop-sorter
invariant-loop-sorter l = l.bits ≡ on_bits (reverse (map (λ s. s.now) l.yielded))
