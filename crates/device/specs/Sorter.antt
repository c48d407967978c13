-- 01, step 4 and the queueing of verdicts: the sorter's queue of waits and its on-time.
use Rattle.std.specs.Prelude.{ℕ, Bool, ◌&&◌, ◌||◌, not, [], ltb}
use Rattle.laws.specs.Choice.{when◌then◌else◌}
use Rattle.time.specs.Time.{is_time, fallen}
use Rattle.queue.specs.Queue.{laid, is_empty, is_full, queue_ticked, one_ends, joined, queue_fit}
use Rattle.device.specs.declared.sorter.Sorter.{Sorter}

-- "the queue holds 8"
unfoldable pub full : Sorter → Bool
full s = is_full s.queue

-- "the sorter queue isn't empty, or the on-time is above 0"
unfoldable pub sorting : Sorter → Bool
sorting s = not (is_empty s.queue) || ltb 0 s.on

-- "The sorter's on-time falls by 1 if above 0. Each queued wait falls by 1; one that reaches 0 leaves, and the on-time becomes to."
unfoldable pub sorter_ticked : Sorter → ℕ → Sorter
sorter_ticked s to =
    record { queue = queue_ticked s.queue; on = when one_ends s.queue then to else fallen s.on }

-- "is queued with wait ts if fewer than 8 wait"
unfoldable pub queued : Sorter → ℕ → Sorter
queued s ts = record { queue = joined s.queue ts; on = s.on }

-- "empties the queue, puts the sorter off"
unfoldable pub sorter_off : Sorter
sorter_off = record { queue = laid []; on = 0 }

-- "at most 8 waits of 1 to 9,999, other times 0 to 9,999"
unfoldable pub sorter_fit : Sorter → Bool
sorter_fit s = queue_fit s.queue 1 && is_time s.on
