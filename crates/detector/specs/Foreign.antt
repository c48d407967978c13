-- 02, T-04 "Detector further up the belt": "Up to eight foreign signals are carried, each with its own delay tf." They stand
-- in the order in which they came; a signal is its delay left, in ticks, and at 0 it has ended.
use Rattle.std.specs.Prelude.{ℕ, Bool, List, [], map, leb, ltb, length}
use Rattle.laws.specs.Choice.{when◌then◌else◌}
use Rattle.lists.specs.Each.{counted, without_first}
use Rattle.time.specs.Time.{fallen, ended}
use Rattle.queue.specs.Queue.{places, waits_of, laid, is_empty, joined, queue_fit}
use Rattle.detector.specs.declared.Foreign.{Foreign}

unfoldable pub signals_of : Foreign → List ℕ
signals_of f = waits_of f.signals

-- these signals, and no other
unfoldable pub carrying : List ℕ → Foreign
carrying l = record { signals = laid l }

-- how many are carried, "ended ones included"
unfoldable pub carried : Foreign → ℕ
carried f = length (signals_of f)

-- "eight carried"
unfoldable pub eight_carried : Foreign → Bool
eight_carried f = leb places (carried f)

-- "counts those that ended"
unfoldable pub ended_in : Foreign → ℕ
ended_in f = counted ended (signals_of f)

-- a verdict is foreign where one has ended
unfoldable pub due : Foreign → Bool
due f = ltb 0 (ended_in f)

-- "Step 5 lets all delays fall"; where none is carried all stays as it is
unfoldable pub delays_fallen : Foreign → Foreign
delays_fallen f = when is_empty f.signals then f else carrying (map fallen (signals_of f))

-- a change 0 to 1: one more "with its own delay tf", the youngest; "with eight carried" it "is not carried"
unfoldable pub signalled : Foreign → ℕ → Foreign
signalled f tf = record { signals = joined f.signals tf }

-- 5. the delays fall, then a change 0 to 1 is looked at
unfoldable pub foreign_ticked : Foreign → Bool → ℕ → Foreign
foreign_ticked f rises tf = when rises then signalled (delays_fallen f) tf else delays_fallen f

-- "uses up one ended signal, the oldest"
unfoldable pub oldest_used : Foreign → Foreign
oldest_used f = carrying (without_first ended (signals_of f))

-- "no foreign signal"
unfoldable pub no_signal : Foreign
no_signal = carrying []

-- "A fit line carries at most eight", and a delay is one of the "other times 0 to 9,999"
unfoldable pub foreign_fit : Foreign → Bool
foreign_fit f = queue_fit f.signals 0
