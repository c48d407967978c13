-- What the fitness of a line tells, part by part, and back. Assumes nothing.
use mathlib.Core.Path.{◌≡◌}
use mathlib.Core.Bool.{true, false, ◌&&◌, ◌||◌, not}
use lib.Dec.{eqb, leb}
use borrow.Author.Tests.{not-true}
use Rattle.laws.proofs.Tests.{both, neither}
use Rattle.device.specs.Sensor.{sensor_fit}
use Rattle.sorters.specs.Sorters.{any_sorting, all_fit}
use Rattle.detector.specs.Foreign.{foreign_fit}
use Rattle.event.specs.Setup.{setup_fit}
use Rattle.settings.specs.Settings.{is_code}
use Rattle.status.specs.Status.{stopped, paused, emergency, error_known}
use Rattle.event.specs.Reply.{no_error}
use Rattle.line.specs.Line.{busy}
use Rattle.line.specs.Fit.{status_fit, line_fit}
use Rattle.event.specs.Sample.{last_fit}
use Rattle.item.specs.Item.{in_hand, item_fit}
use Rattle.undo.specs.Undo.{undo_fit}
use Rattle.bench.specs.Bench.{bench_fit}
use Rattle.line.specs.declared.line.Line.{Line}

pub record FitLine (l : Line) : Type 0 where
  pub code : is_code l.code ≡ true
  pub setup : setup_fit l.setup ≡ true
  pub last : last_fit l.last ≡ true
  pub sensor : sensor_fit l.sensor ≡ true
  pub status : status_fit l ≡ true
  pub sorters : all_fit l.sorters ≡ true
  pub foreign : foreign_fit l.foreign ≡ true
  pub item : item_fit l.item l.setup ≡ true
  pub undo : undo_fit l.undo ≡ true
  pub bench : bench_fit l.bench ≡ true

pub fit_tells : (l : Line) → line_fit l ≡ true → FitLine l
unfolding line_fit
fit_tells l h =
    let z = both _ (bench_fit l.bench) h in
    let a = both _ (undo_fit l.undo) z.0 in
    let b = both _ (item_fit l.item l.setup) a.0 in
    let c = both _ (foreign_fit l.foreign) b.0 in
    let d = both _ (all_fit l.sorters) c.0 in
    let e = both _ (status_fit l) d.0 in
    let f = both _ (sensor_fit l.sensor) e.0 in
    let g = both _ (last_fit l.last) f.0 in
    let k = both _ (setup_fit l.setup) g.0 in
    record {
      code = k.0;
      setup = k.1;
      last = g.1;
      sensor = f.1;
      status = e.1;
      sorters = d.1;
      foreign = c.1;
      item = b.1;
      undo = a.1;
      bench = z.1;
    }

pub tells_fit : (l : Line) → FitLine l → line_fit l ≡ true
unfolding line_fit
tells_fit l f =
    rw (f.code, f.setup, f.last, f.sensor, f.status, f.sorters, f.foreign, f.item, f.undo, f.bench)

-- and the four tests of its status
pub record FitStatus (l : Line) : Type 0 where
  pub known : leb l.status 3 ≡ true
  pub error : error_known l.error ≡ true
  pub paused : eqb l.status paused || eqb l.error no_error ≡ true
  pub idle : not ((eqb l.status stopped || eqb l.status emergency) && busy l) ≡ true

pub status_tells : (l : Line) → status_fit l ≡ true → FitStatus l
unfolding status_fit
status_tells l h =
    let a = both _ (not ((eqb l.status stopped || eqb l.status emergency) && busy l)) h in
    let b = both _ (eqb l.status paused || eqb l.error no_error) a.0 in
    let c = both _ (error_known l.error) b.0 in
    record { known = c.0; error = c.1; paused = b.1; idle = a.1 }

-- nothing is in hand, queued or on in status 0 or 3
pub halted_empty : (l : Line) → status_fit l ≡ true → eqb l.status stopped || eqb l.status emergency ≡ true → (in_hand l.item ≡ false) × (any_sorting l.sorters ≡ false)
unfolding busy
halted_empty l h s = neither _ _ (not-true _ (rw s at (status_tells l h).idle))
