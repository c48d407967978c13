-- The line and both memories after one event more, and the sheet behind the last. Assumes nothing.
use mathlib.Core.Path.{◌≡◌, refl}
use lib.ListN.{length}
use Rattle.example.specs.Sheet.{sheet}
use Rattle.line.specs.State.{state}
use Rattle.example.proofs.Fold.{none_yet, one_more}
use Rattle.example.proofs.Sheets.{read_from, printed}
use Rattle.example.proofs.weighing.print_one_box.Goals as goal

pub loop-event-init : goal.loop-event-init
loop-event-init c = rw (c.fresh-line.ensures, c.blank-records.ensures) none_yet

pub loop-event-preserved : goal.loop-event-preserved
loop-event-preserved c =
    let l = c.loop-event in
    let a = c.advance in
    let seven : length c.told.result ≡ 7 = rw c.told.ensures refl in
    rw (a.ensures.line, a.ensures.settings, a.ensures.memory) (one_more _ l.event-index _ (state l.line l.records l.tallies) l.invariant (rw seven c.loop-event-test.true))

pub returns-in-Ok : goal.returns-in-Ok
returns-in-Ok c =
    let l = c.loop-event in
    let is = read_from (state l.line l.records l.tallies) c.told.result l.event-index l.invariant c.told.ensures c.loop-event-test.false l.auto.event-index-end in
    let same : c.in-Ok.sheet ≡ sheet = let r = c.in-Ok.is in let e = c.report.ensures in cc in
    let w = c.sheet_lines.ensures in
    let v = rw same at w.value in
    let o = rw same at w.out_after in
    let room : length c.args.out.now ≡ 2048 = search in
    let fit = printed c.args.out.now room c.sheet_lines.result c.sheet_lines.new.out v o in
    record { sheet = fit.0; within = fit.1 }

pub returns-in-Err : goal.returns-in-Err
returns-in-Err c =
    let l = c.loop-event in
    let is = read_from (state l.line l.records l.tallies) c.told.result l.event-index l.invariant c.told.ensures c.loop-event-test.false l.auto.event-index-end in
    absurd (let r = c.in-Err.is in let e = c.report.ensures in cc)
