-- `bench` holds by computing. Assumes nothing.
use mathlib.Core.Path.{refl}
use Rattle.weight.specs.Mean.{nearest, rounded}
use Rattle.settings.specs.Grade.{grade_of}
use Rattle.spread.specs.Root.{root, root_from}
use Rattle.spread.specs.Figures.{report_fit, spread_of}
use Rattle.part.specs.Class.{class_of}
use Rattle.part.specs.Part.{added_part}
use Rattle.tally.specs.Tally.{tally_fit, largest_with, smallest_with, counted_with, weighed_with, added}
use Rattle.sheet.specs.Sheet.{sheet_of}
use Rattle.sheet.specs.Bench.{tallied}
use Rattle.sheet.proofs.theorems.bench.Goals as goal

pub returns : goal.returns
unfolding nearest rounded grade_of root root_from tally_fit report_fit spread_of largest_with smallest_with counted_with weighed_with added class_of added_part sheet_of tallied
returns c = record { grades = refl; means = refl; sd = refl; sdp = refl }
