-- 01, "The sheet's figures": what is printed of what stands under a code, by T-05 the class counts too.
use Rattle.std.specs.Prelude.{◌-◌, eqb, ℤ, ◌-ℤ◌, Option, Some, None}
use Rattle.laws.specs.Choice.{when◌then◌else◌}
use Rattle.weight.specs.Mean.{rounded, mean_of}
use Rattle.spread.specs.Figures.{sd_of, sdp_of}
use Rattle.tally.specs.Tally.{total}
use Rattle.tally.specs.declared.tally.Tally.{Tally}
use Rattle.part.specs.declared.part.Part.{Part}
use Rattle.sheet.specs.declared.sheet.Sheet.{Sheet}

-- "For n = 0 max, min, mean, deviation and sdp are none"
abbrev pub unless_none : Tally → ℤ → Option ℤ
unless_none t x = when eqb t.n 0 then None else Some x

-- "Total is all eight counts, ng is total less OK. Mean is S/n, rounded as m; deviation is mean less target, signed."
unfoldable pub sheet_of : Part → ℤ → Sheet
sheet_of p target =
    let t = p.tally in
    record {
      total = total t;
      ng = total t - t.counts.ok;
      counts = t.counts;
      max = unless_none t t.largest;
      min = unless_none t t.smallest;
      sum = t.sum;
      mean = mean_of t.sum t.n;
      deviation = unless_none t (rounded t.sum t.n -ℤ target);
      sd = sd_of t;
      sdp = sdp_of t;
      classes = p.classes;
    }
