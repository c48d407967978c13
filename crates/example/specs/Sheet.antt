-- The sheet of the worked example.
use Rattle.std.specs.Prelude.{◌∷◌, ◌++◌, replicate, pos, None, Some}
use Rattle.sheet.specs.declared.sheet.Sheet.{Sheet}

-- one box of 1004 with the grade OK, 4 above the target of 1000
abbrev pub sheet : Sheet
sheet =
    record {
      total = 1;
      ng = 0;
      counts = record { lolo = 0; lo = 0; ok = 1; hi = 0; hihi = 0; foreign = 0; double = 0; crash = 0 };
      max = Some (pos 1004);
      min = Some (pos 1004);
      sum = pos 1004;
      mean = Some (pos 1004);
      deviation = Some (pos 4);
      sd = None;
      sdp = Some 0;
      classes = replicate 10 0 ++ 1 ∷ replicate 10 0;
    }
