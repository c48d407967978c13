-- 01, "Text lines": the worked example as events and replies, with each of T-01's six sorters set as 01 sets its one.
use Rattle.std.specs.Prelude.{ℕ, ◌≡◌, List, [], ◌∷◌, map, replicate, ℤ, pos, Ok, Err}
use Rattle.event.specs.Setup.{sorter_count}
use Rattle.event.specs.declared.SorterSetup.{SorterSetup}
use Rattle.event.specs.declared.Event.{Event}
use Rattle.event.specs.declared.Event.TheVariants.{Sample, Run, ClearCode, Setup, Store}
use Rattle.event.specs.Reply.{Reply, no_error}
use Rattle.book.specs.Book.{Turn}
use Rattle.claim.specs.Run.{run}

abbrev sorter : SorterSetup
sorter = record { ts = 1; to = 1; sort = 0 }

abbrev pub events : List Event
events =
    Setup
    (record {
      mode = 1;
      edge = 1;
      tc = 0;
      tw = 0;
      ta = 2;
      tf = 0;
      sorters = replicate sorter_count sorter;
      stop = 0;
      need = 0;
    })
    ∷ Store (record { code = 0; settings = record { target = pos 1000; lolo = pos 900; lo = pos 990; hi = pos 1010; hihi = pos 1100; nearzero = pos 100; tare = pos 0 } })
    ∷ Run
    ∷ Sample (record { gross = pos 500; sensor = 1; emergency = 0; safety = 255; foreign = 0 })
    ∷ Sample (record { gross = pos 1003; sensor = 1; emergency = 0; safety = 255; foreign = 0 })
    ∷ Sample (record { gross = pos 1004; sensor = 1; emergency = 0; safety = 255; foreign = 0 })
    ∷ ClearCode 100
    ∷ []

abbrev pub show : ℕ → ℕ → ℕ → ℕ → ℕ → ℕ → ℤ → ℕ → ℕ → Reply
show s b c o d u x t e =
    Ok (record { status = s; busy = b; conveyor = c; sorter = o; detected = d; outcome = u; net = x; tallied = t; error = e })

-- the last reply stands first
abbrev pub replies : List Reply
replies =
    Err (record { number = 2; input = 0 })
    ∷ show 1 0 1 0 0 3 (pos 1004) 1 no_error
    ∷ show 1 1 1 0 0 0 (pos 0) 0 no_error
    ∷ show 1 1 1 0 1 0 (pos 0) 0 no_error
    ∷ show 1 0 1 0 0 0 (pos 0) 0 no_error
    ∷ show 0 0 0 0 0 0 (pos 0) 0 no_error
    ∷ show 0 0 0 0 0 0 (pos 0) 0 no_error
    ∷ []

abbrev pub Example : Type 0
Example = map (λ (t : Turn). t.reply) (run events).history ≡ replies
