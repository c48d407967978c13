-- The room of `Calls` is that of the definition. Assumes nothing.
use mathlib.Core.Path.{◌≡◌, refl}
use Rattle.calls.specs.Traces.{output_room}
use Rattle.calls.specs.declared.fixed.TheConstants.{OUTPUT_ROOM}

pub output_room-of_code : OUTPUT_ROOM ≡ output_room
output_room-of_code = refl
