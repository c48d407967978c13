-- The sheet of the worked example, by computation. Assumes nothing.
use mathlib.Core.Path.{◌≡◌, refl}
use mathlib.Core.List.{List, ◌++◌}
use Prim.Native.Nat.{ℕ, ◌≤◌}
use native.Mathlib.Omega.{arith}
use lib.ListN.{length, take, drop, length-append}
use lib.Seq.{take_at}
use Rattle.std.specs.Prelude.{Ok}
use Rattle.event.specs.declared.Event.{Event}
use Rattle.line.specs.State.{State}
use Rattle.claim.specs.Run.{run, run_from}
use Rattle.claim.specs.Example.{events}
use Rattle.line.specs.Line.{fresh_line, busy, conveyor, sorter_field}
use Rattle.status.specs.Status.{error_known, error_for, conveyor_runs}
use Rattle.line.specs.Fit.{status_fit, line_fit}
use Rattle.item.specs.Item.{item_fit, new_item, ticked, weighed}
use Rattle.undo.specs.Undo.{undo_fit, takes_at}
use Rattle.line.specs.Effect.{halted, halting, replied}
use Rattle.line.specs.Verdict.{sorted_for, stopped_for, given, or_crash, verdict_of, judged}
use Rattle.line.specs.Sample.{step1, edge_made, foreign_rises, step2, step3, on_bench, step4, step5, after_weighing, step6, box_taken, detecting, by_sensor, by_hand, step7, ninth_signal, unless_ninth, running_tick, guarded, from_step3, sampled}
use Rattle.bench.specs.Bench.{bench_fit, grosses_of, keeping, begun}
use Rattle.line.specs.Command.{ran, stopping, alarmed}
use Rattle.line.specs.Tallying.{noted, recorded, code_cleared}
use Rattle.refusal.specs.Rows.{lengths_wrong, reads_record, reads_tally, refused_running, refused_in_emergency, refused_paused, run_unsafe, run_occupied, nothing_to_cancel}
use Rattle.line.specs.Refusal.{memory_sound, refusal_of, input_of}
use Rattle.line.specs.Step.{accepted, step_of}
use Rattle.tally.specs.Tally.{tally_fit, has_room, takes, largest_with, smallest_with, counted_with, weighed_with, added}
use Rattle.lists.specs.Counts.{add_up}
use Rattle.part.specs.Class.{class_of}
use Rattle.part.specs.Part.{part_fit, added_part, takes_in}
use Rattle.tallies.specs.Memory.{part, tally_of, unsigned, part_of, numbers_fit, fit_at, with_part, zeros}
use Rattle.device.specs.Sensor.{settled, sensor_fit}
use Rattle.lists.specs.Each.{any_of, all_of, any_pair, each_pair, counted, without, without_first}
use Rattle.queue.specs.Queue.{waits_of, laid, waiting, is_empty, is_full, queue_ticked, one_ends, joined, queue_fit}
use Rattle.device.specs.Sorter.{full, sorting, sorter_ticked, queued, sorter_off, sorter_fit}
use Rattle.sorters.specs.Sorters.{ticked_as, entered, blocks, on_bit, all_ticked, all_entered, any_blocks, any_sorting, on_bits, all_off, all_fit}
use Rattle.detector.specs.Foreign.{signals_of, carrying, carried, eight_carried, ended_in, due, delays_fallen, signalled, foreign_ticked, oldest_used, no_signal, foreign_fit}
use Rattle.mask.specs.Bits.{marked, first_off}
use Rattle.settings.specs.Settings.{record_ranged, limits_ordered}
use Rattle.settings.specs.Grade.{grade_of}
use Rattle.event.specs.Setup.{sorter_ranged, sorters_ranged, setup_ranged, edge_agrees, masks_agree, setup_agrees}
use Rattle.event.specs.Sample.{sample_ranged, last_fit}
use Rattle.event.specs.Event.{event_ranged, event_agrees}
use Rattle.weight.specs.Mean.{nearest, rounded}
use Rattle.spread.specs.Figures.{report_fit, spread_of}
use Rattle.spread.specs.Root.{root_from, root}
use Rattle.sheet.specs.Sheet.{sheet_of}
use Rattle.sheet.specs.Report.{memory_wrong, report_refusal, report_of, report_on}
use Rattle.print.specs.Sheet.{sheet_text, sheet_room}
use Rattle.print.specs.Written.{buffer_after, length_written}
use Rattle.example.specs.Sheet.{sheet}

pub reported : report_on (run events).state.settings (run events).state.tallies 0 ≡ Ok sheet
unfolding run run_from fresh_line busy conveyor_runs conveyor sorter_field last_fit sensor_fit error_known item_fit undo_fit bench_fit grosses_of keeping begun status_fit line_fit halted halting replied sorted_for error_for stopped_for given or_crash verdict_of judged step1 edge_made foreign_rises step2 step3 on_bench step4 step5 ticked weighed after_weighing step6 new_item box_taken detecting by_sensor by_hand step7 ninth_signal unless_ninth running_tick guarded from_step3 sampled ran stopping alarmed noted recorded code_cleared memory_sound lengths_wrong reads_record reads_tally refused_running refused_in_emergency refused_paused run_unsafe run_occupied nothing_to_cancel refusal_of input_of accepted step_of tally_fit has_room takes takes_at largest_with smallest_with counted_with weighed_with added add_up class_of part_fit added_part takes_in part tally_of unsigned part_of numbers_fit fit_at with_part zeros settled any_of all_of counted without without_first waits_of laid waiting is_empty is_full queue_ticked one_ends joined queue_fit full sorting sorter_ticked queued sorter_off sorter_fit ticked_as entered blocks on_bit all_ticked all_entered any_blocks any_sorting on_bits all_off all_fit any_pair each_pair signals_of carrying carried eight_carried ended_in due delays_fallen signalled foreign_ticked oldest_used no_signal foreign_fit marked first_off record_ranged limits_ordered grade_of sorter_ranged sorters_ranged setup_ranged edge_agrees masks_agree setup_agrees sample_ranged event_ranged event_agrees nearest rounded report_fit spread_of root_from root sheet_of memory_wrong report_refusal report_of
reported = refl

-- after the last of the seven
pub read_from : (s : State) (told : List Event) (i : ℕ) → s ≡ (run (take i told)).state → told ≡ events → 7 ≤ i → i ≤ 7 → report_on s.settings s.tallies 0 ≡ Ok sheet
read_from s told i is e h k = let n : i ≡ 7 = omega (arith, h, k) in rw (is, e, n) reported

-- a buffer of the room of a sheet
pub printed : (out : List ℕ) → length out ≡ sheet_room → (r : ℕ) (us : List ℕ) → r ≡ length_written sheet_room (sheet_text 0 sheet) out → us ≡ buffer_after sheet_room (sheet_text 0 sheet) out
    → (take r us ≡ sheet_text 0 sheet) × (r ≤ length us)
printed out n r us v o =
    let text = sheet_text 0 sheet in
    let behind = drop (length text) out in
    let reads : r ≡ length text = rw n at v in
    let holds : us ≡ text ++ behind = rw n at o in
    rw (reads, holds) (take_at text behind (length text) refl, let k = length-append text behind in omega (arith, k))
