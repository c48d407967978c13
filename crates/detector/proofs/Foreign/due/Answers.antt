-- `due`: one of the signals has ended. Assumes nothing.
use mathlib.Core.Path.{refl}
use mathlib.Core.Bool.{◌||◌}
use Rattle.std.specs.List.{list_any}
use Rattle.std.proofs.lemmas.List.Recursion.{same_from_clauses}
use Rattle.lists.specs.Each.{any_of}
use Rattle.time.specs.Time.{ended}
use Rattle.detector.specs.Foreign.{signals_of}
use Rattle.detector.proofs.Signals.{due_any}
use Rattle.detector.proofs.Foreign.due.Goals as goal

pub returns : goal.returns
unfolding any_of signals_of
returns c =
    let same = same_from_clauses (list_any ended) (any_of ended) (λ x t. ended x || t) refl (λ _ _. refl) (λ _ _. refl) (signals_of c.args.self) in
    rw (due_any c.args.self, ← same, ← c.taken.ensures) c.contains.ensures.value
