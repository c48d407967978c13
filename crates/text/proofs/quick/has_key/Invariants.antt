-- What the loop keeps.
use mathlib.Core.Path.{◌≡◌}
use mathlib.Core.Bool.{◌&&◌}
use lib.ListN.{drop}
use Rattle.text.specs.Views.{is_prefix}
use Rattle.text.proofs.quick.has_key.Given as goal

abbrev pub invariant-loop-j : goal.invariant-loop-j
invariant-loop-j l = l.same && is_prefix (drop l.j l.key) (drop l.j l.rest) ≡ is_prefix l.key l.rest
