-- 02, T-14: a box with tw 1 and ta 2 over two pauses, a refused sample and a tick that error 7 ended. It has its outcome on the third
-- counted tick, and none before.
use Rattle.std.specs.Prelude.{ℕ, ◌≡◌, List, [], ◌∷◌, ◌++◌, replicate, pos}
use Rattle.verdict.specs.Verdict as verdict
use Rattle.event.specs.Setup.{sorter_count}
use Rattle.event.specs.declared.SorterSetup.{SorterSetup}
use Rattle.event.specs.declared.Event.{Event}
use Rattle.event.specs.declared.Event.TheVariants.{Sample, Run, Stop, Setup, Store}
use Rattle.claim.specs.Run.{run, after}
use Rattle.claim.specs.Waiting.{ticks_in, outcome_of_box}

abbrev sorter : SorterSetup
sorter = record { ts = 1; to = 1; sort = 0 }

abbrev sampled : ℕ → ℕ → ℕ → ℕ → Event
sampled gross sensor safety foreign =
    Sample (record { gross = pos gross; sensor = sensor; emergency = 0; safety = safety; foreign = foreign })

-- a foreign signal comes and goes
abbrev signal : List Event → List Event
signal es = sampled 0 0 255 1 ∷ sampled 0 0 255 0 ∷ es

-- eight signals are carried, and their delays of 9,999 ticks last
abbrev pub before : List Event
before =
    Setup
    (record {
      mode = 1;
      edge = 1;
      tc = 0;
      tw = 1;
      ta = 2;
      tf = 9999;
      sorters = replicate sorter_count sorter;
      stop = 0;
      need = 1;
    })
    ∷ Store (record { code = 0; settings = record { target = pos 1000; lolo = pos 900; lo = pos 990; hi = pos 1010; hihi = pos 1100; nearzero = pos 100; tare = pos 0 } })
    ∷ Run
    ∷ signal (signal (signal (signal (signal (signal (signal (signal [])))))))

abbrev pub detection : Event
detection = sampled 500 1 255 0

abbrev pub between : List Event
between =
    sampled 900 1 255 0  -- the first counted tick
    ∷ Stop  -- pauses
    ∷ sampled 900 1 255 0
    ∷ Run
    ∷ sampled 900 1 254 0  -- a needed input is off: pauses
    ∷ sampled 900 1 255 0
    ∷ Run
    ∷ sampled 900 2 255 0  -- refused
    ∷ sampled 900 1 255 1  -- a ninth signal: error 7
    ∷ Run
    ∷ sampled 1003 1 255 1  -- the second
    ∷ []

abbrev pub third : Event
third = sampled 1004 1 255 1

pub record WaitingExample : Type 0 where
  pub short : ticks_in (after (run before) detection) between ≡ 2
  pub waits : outcome_of_box (run before) detection between ≡ 0
  pub ticks : ticks_in (after (run before) detection) (between ++ third ∷ []) ≡ 3
  pub judged : outcome_of_box (run before) detection (between ++ third ∷ []) ≡ verdict.ok
