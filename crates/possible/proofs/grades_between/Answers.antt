-- `grades_between` has a bit for each grade between the ends. Assumes nothing.
use native.Mathlib.Omega.{arith}
use mir.Facts.{to_z-of_z}
use Rattle.laws.proofs.Signed.{back}
use Rattle.possible.specs.Bounds.{grades_between}
use borrow.Author.Rules.{rules}
use Rattle.possible.proofs.grades_between.Goals as goal

pub returns : goal.returns
unfolding grades_between
returns c =
    let a = c.args in (
      simp (
        c.outcome_if-lolo.ensures.0,
        c.outcome_if-lo.ensures.0,
        c.outcome_if-ok.ensures.0,
        c.outcome_if-hi.ensures.0,
        c.outcome_if-hihi.ensures.0,
        to_z-of_z c.ranges.l,
        to_z-of_z c.ranges.h,
        back a.s.lolo (search rules),
        back a.s.lo (search rules),
        back a.s.hi (search rules),
        back a.s.hihi (search rules),
      ),
      omega arith,
    )
