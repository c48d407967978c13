-- `ranged` tests each field. Assumes nothing.
use Rattle.std.proofs.Common.{rules}
use Rattle.settings.specs.Settings.{record_ranged}
use Rattle.settings.proofs.Settings.ranged.Goals as goal

pub returns : goal.returns
unfolding record_ranged
returns c =
    simp (
      c.is_weight.ensures,
      c.is_weight-2.ensures,
      c.is_weight-3.ensures,
      c.is_weight-4.ensures,
      c.is_weight-5.ensures,
      c.is_load.ensures,
      c.is_load-2.ensures,
    ) (search rules)
