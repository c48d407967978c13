-- 02, T-01: one sorter alone, the masks of the others 0 and the others off, does what the one sorter of 01 did.
use Rattle.std.specs.Prelude.{ℕ, ◌^◌, ◌<◌, ◌≡◌, true, ◌&&◌, List, ltb, length, get_or, set}
use Rattle.laws.specs.Choice.{when◌then◌else◌}
use Rattle.lists.specs.Each.{all_of}
use Rattle.mask.specs.Bits.{marked}
use Rattle.device.specs.Sorter.{full, sorting, sorter_ticked, queued}
use Rattle.device.specs.declared.sorter.Sorter.{Sorter}
use Rattle.event.specs.Setup.{fresh_sorter, sorter_count, sorts_nothing}
use Rattle.event.specs.declared.SorterSetup.{SorterSetup}
use Rattle.sorters.specs.Sorters.{all_ticked, all_entered, any_blocks, any_sorting, on_bits, all_off}

-- sorter k + 1 is s, the others are off
abbrev pub alone : ℕ → Sorter → List Sorter
alone k s = set all_off k s

-- what six sorters are set to, where only sorter k + 1 may sort: were it set as fresh, none did
pub record OnlySorts (cs : List SorterSetup) (k : ℕ) : Type 0 where
  pub six : length cs ≡ sorter_count
  pub place : k < sorter_count
  pub others : all_of sorts_nothing (set cs k fresh_sorter) ≡ true

pub record OneAlone : Type 0 where
  -- 01, step 4: its on-time and waits, with its own to
  pub ticks : (s : Sorter) (cs : List SorterSetup) (k : ℕ) → OnlySorts cs k
      → all_ticked (alone k s) cs ≡ alone k (sorter_ticked s (get_or cs k fresh_sorter).to)
  -- "A verdict with its sort bit is queued with wait ts if fewer than 8 wait."
  pub queues : (v : ℕ) (s : Sorter) (cs : List SorterSetup) (k : ℕ) → OnlySorts cs k
      → all_entered v (alone k s) cs ≡ alone k (when marked (get_or cs k fresh_sorter).sort v then queued s (get_or cs k fresh_sorter).ts else s)
  -- "If its sort bit is set and the queue holds 8, the verdict is crash."
  pub crashes : (v : ℕ) (s : Sorter) (cs : List SorterSetup) (k : ℕ) → OnlySorts cs k
      → any_blocks v (alone k s) cs ≡ (marked (get_or cs k fresh_sorter).sort v && full s)
  -- "the sorter queue isn't empty, or the on-time is above 0"
  pub sorts : (s : Sorter) (k : ℕ) → k < sorter_count → any_sorting (alone k s) ≡ sorting s
  -- the reply's sorter field has its bit alone
  pub shows : (s : Sorter) (k : ℕ) → k < sorter_count → on_bits (alone k s) ≡ (when ltb 0 s.on then 2 ^ k else 0)
