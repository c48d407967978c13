-- "Store (not while running) replaces one code's settings".
use Rattle.std.specs.Prelude.{List, set, Option, Some, None, Ok}
use Rattle.settings.specs.declared.Settings.{Settings}
use Rattle.event.specs.Reply.{Reply}
use Rattle.event.specs.declared.Event.{Event}
use Rattle.event.specs.declared.Event.TheVariants.{Store}
use Rattle.event.specs.declared.Stored.{Stored}

-- the settings records after an event that stores this
abbrev pub stored : List Settings → Option Stored → List Settings
stored ss None = ss
stored ss (Some x) = set ss x.code x.settings
