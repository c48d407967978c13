-- 01, "Line and memory": the line's record with the two lent memories, the settings records and the tallies.
use Rattle.std.specs.Prelude.{List, ℤ, get_or, replicate}
use Rattle.settings.specs.Settings.{blank, settings_length}
use Rattle.settings.specs.declared.Settings.{Settings}
use Rattle.tallies.specs.Memory.{zeros, tallies_length}
use Rattle.line.specs.Line.{fresh_line}
use Rattle.line.specs.declared.line.Line.{Line}

pub record State : Type 0 where
  pub line : Line
  pub settings : List Settings
  pub tallies : List ℤ

abbrev pub state : Line → List Settings → List ℤ → State
state l ss ts = record { line = l; settings = ss; tallies = ts }

-- a fresh line, and "Fresh memory has its full lengths, all zeros."
abbrev pub fresh_state : State
fresh_state = state fresh_line (replicate settings_length blank) (zeros tallies_length)

-- the active code's record
abbrev pub active_of : State → Settings
active_of s = get_or s.settings s.line.code blank
