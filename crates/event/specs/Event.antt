-- 01, "Events" and refusals 2 and 4: whether an event's fields are in range, and whether they agree with each other.
use Rattle.std.specs.Prelude.{Bool, true, ◌&&◌}
use Rattle.settings.specs.Settings.{is_code, record_ranged, limits_ordered}
use Rattle.event.specs.Setup.{setup_ranged, setup_agrees}
use Rattle.event.specs.Sample.{sample_ranged}
use Rattle.event.specs.declared.Event.{Event}
use Rattle.event.specs.declared.Event.TheVariants.{Sample, Recall, ClearCode, Setup, Store}

-- no field is out of range
unfoldable pub event_ranged : Event → Bool
event_ranged (Sample s) = sample_ranged s
event_ranged (Recall c) = is_code c
event_ranged (ClearCode c) = is_code c
event_ranged (Setup s) = setup_ranged s
event_ranged (Store s) = is_code s.code && record_ranged s.settings
event_ranged e = true

-- "limits out of order; mode 2 with edge 1" is not the case; nor, by 02, T-02, "Sort masks other than 0 in mode 4"
unfoldable pub event_agrees : Event → Bool
event_agrees (Setup s) = setup_agrees s
event_agrees (Store s) = limits_ordered s.settings
event_agrees e = true
