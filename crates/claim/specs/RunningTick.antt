-- 01, steps 2 and 3: whether an event was a running tick, told from the line before it, the event and its reply.
use Rattle.std.specs.Prelude.{Bool, false, ◌&&◌, eqb}
use Rattle.mask.specs.Bits.{lowest_off}
use Rattle.event.specs.Kind.{of_sample}
use Rattle.event.specs.declared.Event.{Event}
use Rattle.event.specs.Reply.{Reply}
use Rattle.line.specs.Line.{is_running}
use Rattle.line.specs.declared.line.Line.{Line}
use Rattle.claim.specs.Claim.{refusal_in}

-- an accepted sample with emergency 0, the line running ("If not running, the sample ends.") and no needed input off
-- ("If a bit set in need is 0 in safety: paused, error 1, end. Else it is a running tick")
unfoldable pub is_running_tick : Line → Event → Reply → Bool
is_running_tick l e r =
    eqb (refusal_in r) 0
    && of_sample (λ s. eqb s.emergency 0 && is_running l && eqb (lowest_off l.setup.need s.safety) 0) false e
