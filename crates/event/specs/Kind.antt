-- 01, "An event is one of twelve kinds".
use Rattle.std.specs.Prelude.{Bool, true, false}
use Rattle.event.specs.declared.Sample as sample
use Rattle.event.specs.declared.Kind.{Kind}
use Rattle.event.specs.declared.Kind.TheVariants as kind
use Rattle.event.specs.declared.Event.{Event}
use Rattle.event.specs.declared.Event.TheVariants.{Sample, Run, Stop, Emergency, Recall, Cancel, ClearCode, ClearAll, ErrorReset, NoOperation, Setup, Store}

abbrev pub kind_of : Event → Kind
kind_of (Sample s) = kind.Sample
kind_of Run = kind.Run
kind_of Stop = kind.Stop
kind_of Emergency = kind.Emergency
kind_of (Recall c) = kind.Recall
kind_of Cancel = kind.Cancel
kind_of (ClearCode c) = kind.ClearCode
kind_of ClearAll = kind.ClearAll
kind_of ErrorReset = kind.ErrorReset
kind_of NoOperation = kind.NoOperation
kind_of (Setup s) = kind.Setup
kind_of (Store s) = kind.Store

-- what f says of a sample, and d of every other kind
abbrev pub of_sample : {A : Type 0} → (sample.Sample → A) → A → Event → A
of_sample f d (Sample s) = f s
of_sample f d e = d

abbrev pub is_sample : Event → Bool
is_sample = of_sample (λ s. true) false

abbrev pub is_run : Event → Bool
is_run Run = true
is_run e = false

abbrev pub is_stop : Event → Bool
is_stop Stop = true
is_stop e = false

abbrev pub is_cancel : Event → Bool
is_cancel Cancel = true
is_cancel e = false

abbrev pub is_setup : Event → Bool
is_setup (Setup s) = true
is_setup e = false

abbrev pub is_store : Event → Bool
is_store (Store s) = true
is_store e = false
