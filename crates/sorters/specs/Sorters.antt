-- 02, T-01: "The rule of a queue is shown for one sorter and applied to six." A line's sorters are a list, and so is what they are set to.
use Rattle.std.specs.Prelude.{ℕ, ◌+◌, ◌*◌, Bool, ◌&&◌, List, [], ◌∷◌, ltb, replicate}
use Rattle.laws.specs.Choice.{when◌then◌else◌, bit}
use Rattle.lists.specs.Each.{any_of, all_of, any_pair, each_pair}
use Rattle.mask.specs.Bits.{marked}
use Rattle.device.specs.Sorter.{full, sorting, sorter_ticked, queued, sorter_off, sorter_fit}
use Rattle.device.specs.declared.sorter.Sorter.{Sorter}
use Rattle.event.specs.Setup.{sorter_count}
use Rattle.event.specs.declared.SorterSetup.{SorterSetup}

-- ---- one sorter, as it is set

-- 01, step 4
unfoldable pub ticked_as : Sorter → SorterSetup → Sorter
ticked_as s c = sorter_ticked s c.to

-- its "mask has its bit": the verdict enters its queue; "Two-on enters those that hold fewer than 8", as 01 has it of one
unfoldable pub entered : ℕ → Sorter → SorterSetup → Sorter
entered v s c = when marked c.sort v then queued s c.ts else s

-- "one of those queues holds 8"
unfoldable pub blocks : ℕ → Sorter → SorterSetup → Bool
blocks v s c = marked c.sort v && full s

-- 01: on-time above 0
unfoldable pub on_bit : Sorter → ℕ
on_bit s = bit (ltb 0 s.on)

-- ---- all six

unfoldable pub all_ticked : List Sorter → List SorterSetup → List Sorter
all_ticked = each_pair ticked_as

-- "A verdict enters the queue of every sorter whose mask has its bit."
unfoldable pub all_entered : ℕ → List Sorter → List SorterSetup → List Sorter
all_entered v = each_pair (entered v)

-- "becomes crash if one of those queues holds 8"
unfoldable pub any_blocks : ℕ → List Sorter → List SorterSetup → Bool
any_blocks v = any_pair (blocks v)

-- 01: "the sorter queue isn't empty, or the on-time is above 0", of one of them
unfoldable pub any_sorting : List Sorter → Bool
any_sorting = any_of sorting

-- "The reply's sorter field is 0 to 63, bit k-1 for sorter k."
unfoldable pub on_bits : List Sorter → ℕ
on_bits [] = 0
on_bits (s ∷ ss) = on_bit s + 2 * on_bits ss

unfoldable pub all_off : List Sorter
all_off = replicate sorter_count sorter_off

unfoldable pub all_fit : List Sorter → Bool
all_fit = all_of sorter_fit
