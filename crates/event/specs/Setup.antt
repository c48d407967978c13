-- 01, "Setup", with the six sorters of 02, T-01, and mode 4 of T-02: a fresh line's, the fields' ranges, and what modes 2 and 4 need.
use Rattle.std.specs.Prelude.{ℕ, ◌%◌, Bool, ◌&&◌, ◌||◌, not, leb, eqb, length, replicate}
use Rattle.laws.specs.Choice.{within}
use Rattle.lists.specs.Each.{all_of}
use Rattle.time.specs.Time.{longest, is_time}
use Rattle.event.specs.declared.Setup.{Setup}
use Rattle.event.specs.declared.SorterSetup.{SorterSetup}

-- T-01: "The manual allows six sorters"
abbrev pub sorter_count : ℕ
sorter_count = 6

-- T-01: "Fresh, each has 100, 50 and 0."
abbrev pub fresh_sorter : SorterSetup
fresh_sorter = record { ts = 100; to = 50; sort = 0 }

-- "mode 1, edge 2, tc 0, tw 72, ta 35, tf 0 .. stop and need 0"
abbrev pub fresh_setup : Setup
fresh_setup =
    record {
      mode = 1;
      edge = 2;
      tc = 0;
      tw = 72;
      ta = 35;
      tf = 0;
      sorters = replicate sorter_count fresh_sorter;
      stop = 0;
      need = 0;
    }

-- T-02 "Bench mode": "Mode 4"
abbrev pub bench_mode : ℕ
bench_mode = 4

abbrev pub is_bench : Setup → Bool
is_bench s = eqb s.mode bench_mode

-- "ts (sorter wait), to (sorter on-time) 1 to 9,999; masks sort, stop, need 0 to 255 .. sort has bit 0 clear (else 2)"
unfoldable pub sorter_ranged : SorterSetup → Bool
sorter_ranged c = within 1 longest c.ts && within 1 longest c.to && leb c.sort 255 && eqb (c.sort % 2) 0

-- T-01: all six, "ts1 to1 sort1 up to ts6 to6 sort6"
unfoldable pub sorters_ranged : Setup → Bool
sorters_ranged s = eqb (length s.sorters) sorter_count && all_of sorter_ranged s.sorters

-- "mode 1 or 2", and T-02's 4
abbrev pub is_mode : ℕ → Bool
is_mode m = within 1 2 m || eqb m bench_mode

-- "edge 1 (off to on) or 2 (on to off); tc (settling), tw (wait), tf (foreign delay) 0 to 9,999; ta (averaging) .. 1 to 9,999; masks .. stop, need 0 to 255"
unfoldable pub setup_ranged : Setup → Bool
setup_ranged s =
    is_mode s.mode && within 1 2 s.edge
    && is_time s.tc && is_time s.tw && is_time s.tf
    && within 1 longest s.ta && sorters_ranged s && leb s.stop 255 && leb s.need 255

-- "Mode 2 needs edge 2"
unfoldable pub edge_agrees : Setup → Bool
edge_agrees s = not (eqb s.mode 2 && eqb s.edge 1)

-- T-02: "Sort masks other than 0 in mode 4 are refused 4"
abbrev pub sorts_nothing : SorterSetup → Bool
sorts_nothing c = eqb c.sort 0

unfoldable pub masks_agree : Setup → Bool
masks_agree s = not (is_bench s) || all_of sorts_nothing s.sorters

unfoldable pub setup_agrees : Setup → Bool
setup_agrees s = edge_agrees s && masks_agree s

-- a setup as the event takes it
abbrev pub setup_fit : Setup → Bool
setup_fit s = setup_ranged s && setup_agrees s
