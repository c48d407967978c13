-- 01's queue of waits. It has eight places: the waits stand in the first n, in the order in which they came; the places
-- behind them hold 0 and are not read.
use Rattle.std.specs.Prelude.{ℕ, Bool, ◌&&◌, ◌||◌, not, List, [], ◌∷◌, ◌++◌, map, eqb, leb, length, take}
use Rattle.laws.specs.Choice.{when◌then◌else◌, within}
use Rattle.lists.specs.Each.{any_of, all_of, without}
use Rattle.lists.specs.Places.{in_places}
use Rattle.time.specs.Time.{longest, is_time, fallen, ended}
use Rattle.queue.specs.declared.Queue.{Queue}

-- "at most 8 waits"
abbrev pub places : ℕ
places = 8

unfoldable pub waits_of : Queue → List ℕ
waits_of q = take q.n q.waits

-- the queue of these waits
unfoldable pub laid : List ℕ → Queue
laid l = record { waits = in_places places 0 l; n = length l }

-- how many wait
unfoldable pub waiting : Queue → ℕ
waiting q = length (waits_of q)

-- none waits
unfoldable pub is_empty : Queue → Bool
is_empty q = eqb (waiting q) 0

-- "the queue holds 8"
unfoldable pub is_full : Queue → Bool
is_full q = leb places (waiting q)

-- "Each queued wait falls by 1; one that reaches 0 leaves"; an empty queue stays as it is
unfoldable pub queue_ticked : Queue → Queue
queue_ticked q = when is_empty q then q else laid (without ended (map fallen (waits_of q)))

-- one reaches 0 on this tick
unfoldable pub one_ends : Queue → Bool
one_ends q = any_of ended (map fallen (waits_of q))

-- "is queued with wait ts if fewer than 8 wait": it is put last. What is no time is no wait
unfoldable pub joined : Queue → ℕ → Queue
joined q ts = when is_full q || not (is_time ts) then q else laid (waits_of q ++ ts ∷ [])

-- "at most 8 waits of 1 to 9,999": there 1 is the shortest; for delays, "other times 0 to 9,999", it is 0
unfoldable pub queue_fit : Queue → ℕ → Bool
queue_fit q shortest = leb q.n places && all_of (within shortest longest) (waits_of q)
