-- 01, "Sample": "sensor, emergency, foreign (0 or 1), safety (0 to 255; input k is bit k-1), gross".
use Rattle.std.specs.Prelude.{Bool, ◌&&◌, leb}
use Rattle.weight.specs.Weight.{is_weight}
use Rattle.event.specs.declared.Sample.{Sample}
use Rattle.event.specs.declared.last.Last.{Last}

unfoldable pub sample_ranged : Sample → Bool
sample_ranged s =
    leb s.sensor 1 && leb s.emergency 1 && leb s.foreign 1 && leb s.safety 255 && is_weight s.gross

-- "last sample .. as events take them"
unfoldable pub last_fit : Last → Bool
last_fit k = is_weight k.gross && leb k.safety 255 && leb k.foreign 1
