-- Parts of a line are changed and it stays fit. Assumes nothing.
use mathlib.Core.Path.{◌≡◌, refl}
use mathlib.Core.Bool.{true}
use mathlib.Core.List.{List}
use Prim.Native.Nat.{ℕ}
use lib.Dec.{eqb}
use borrow.Author.Tests.{eqb-true}
use Rattle.laws.proofs.Tests.{and_intro, if_ind}
use Rattle.weight.specs.Weight.{is_weight}
use Rattle.mask.specs.Bits.{marked}
use Rattle.sorters.specs.Sorters.{all_fit, all_ticked, all_entered}
use Rattle.sorters.proofs.Keeps.{all_ticked-fit, all_entered-fit, all_off-fit, all_off_idle}
use Rattle.detector.specs.Foreign.{foreign_ticked, foreign_fit}
use Rattle.device.specs.declared.sorter.Sorter.{Sorter}
use Rattle.detector.specs.declared.Foreign.{Foreign}
use Rattle.bench.specs.Bench.{ticked_on, bench_fit}
use Rattle.bench.specs.declared.Bench.{Bench}
use Rattle.bench.proofs.Grosses.{ticked-fit}
use Rattle.device.proofs.Keeps.{settled-fit}
use Rattle.detector.proofs.Signals.{foreign_ticked-fit}
use Rattle.event.specs.declared.Sample.{Sample}
use Rattle.event.specs.Setup.{is_bench}
use Rattle.event.proofs.Facts.{timers, InRange}
use Rattle.status.specs.Status.{stopped, running, paused, emergency, error_known, error_for}
use Rattle.line.specs.Line.{busy, with_status, with_sorters, with_foreign, with_item, with_bench}
use Rattle.event.specs.Reply.{no_error}
use Rattle.line.specs.Fit.{status_fit}
use Rattle.event.specs.Sample.{last_fit}
use Rattle.item.specs.Item.{item_fit}
use Rattle.line.specs.Effect.{halted}
use Rattle.line.specs.Verdict.{sorted_for, stopped_for}
use Rattle.line.specs.Sample.{step1, on_bench, step4, step5}
use Rattle.line.specs.declared.line.Line.{Line}
use Rattle.item.specs.declared.Item.{Item}
use Rattle.line.specs.declared.sample.Tick.{Tick}
use Rattle.line.proofs.Facts.{FitLine, status_tells}

-- ---- the status

pub running-status : (l : Line) → l.status ≡ running → l.error ≡ no_error → status_fit l ≡ true
unfolding status_fit error_known
running-status l s e = simp (s, e)

pub paused-status : (l : Line) → l.status ≡ paused → error_known l.error ≡ true → status_fit l ≡ true
unfolding status_fit
paused-status l s e = simp (s, e)

-- a line that is not paused has no error
pub error-none : (l : Line) → status_fit l ≡ true → l.status ≡ running → l.error ≡ no_error
error-none l h s = eqb-true l.error no_error (rw s at (status_tells l h).paused)

-- ---- a running line

pub record Running (l : Line) : Type 0 where
  pub fit : FitLine l
  pub status : l.status ≡ running
  pub error : l.error ≡ no_error

pub with_item_lem : (l : Line) (i : Item) → Running l → item_fit i l.setup ≡ true → Running (with_item l i)
with_item_lem l i r h = assumption (r, h, running-status (with_item l i) r.status r.error)

with_sorters_lem : (l : Line) (ss : List Sorter) → Running l → all_fit ss ≡ true → Running (with_sorters l ss)
with_sorters_lem l ss r h = assumption (r, h, running-status (with_sorters l ss) r.status r.error)

pub with_foreign_lem : (l : Line) (f : Foreign) → Running l → foreign_fit f ≡ true → Running (with_foreign l f)
with_foreign_lem l f r h = assumption (r, h, running-status (with_foreign l f) r.status r.error)

pub with_bench_lem : (l : Line) (b : Bench) → Running l → bench_fit b ≡ true → Running (with_bench l b)
with_bench_lem l b r h = assumption (r, h, running-status (with_bench l b) r.status r.error)

pub with_paused : (l : Line) (e : ℕ) → FitLine l → error_known e ≡ true → FitLine (with_status l paused e)
with_paused l e f h = assumption (f, paused-status (with_status l paused e) refl h)

-- ---- the steps that change one part

pub fit-on_bench : (l : Line) (t : Tick) → Running l → is_weight t.gross ≡ true → Running (on_bench l t)
unfolding on_bench
fit-on_bench l t r g =
    with_bench_lem l _ r
    (if_ind (λ (b : Bench). bench_fit b ≡ true) (is_bench l.setup) (ticked_on l.bench t.gross t.active.nearzero) l.bench
    (λ _. ticked-fit l.bench t.gross t.active.nearzero g r.fit.bench)
    (λ _. r.fit.bench))

pub fit-step4 : (l : Line) → Running l → Running (step4 l)
unfolding step4
fit-step4 l r =
    with_sorters_lem l (all_ticked l.sorters l.setup.sorters) r
    (all_ticked-fit l.sorters l.setup.sorters r.fit.sorters (timers l.setup r.fit.setup).sorters)

pub fit-step5 : (l : Line) (t : Tick) → Running l → Running (step5 l t)
unfolding step5
fit-step5 l t r =
    with_foreign_lem l (foreign_ticked l.foreign t.rises l.setup.tf) r
    (foreign_ticked-fit l.foreign t.rises l.setup.tf (timers l.setup r.fit.setup).tf r.fit.foreign)

pub fit-sorted : (l : Line) (v : ℕ) → Running l → Running (sorted_for l v)
unfolding sorted_for
fit-sorted l v r =
    with_sorters_lem l (all_entered v l.sorters l.setup.sorters) r
    (all_entered-fit v l.sorters l.setup.sorters r.fit.sorters (timers l.setup r.fit.setup).sorters)

error_known_lem : (v : ℕ) → error_known (error_for v) ≡ true
unfolding error_for error_known
error_known_lem v =
    if_ind (λ (e : ℕ). error_known e ≡ true) (eqb v 7) _ _ (λ _. refl)
    (λ _. if_ind (λ (e : ℕ). error_known e ≡ true) (eqb v 6) _ _ (λ _. refl)
    (λ _. if_ind (λ (e : ℕ). error_known e ≡ true) (eqb v 8) 6 0 (λ _. refl) (λ _. refl)))

pub fit-stopped : (l : Line) (v : ℕ) → FitLine l → FitLine (stopped_for l v)
unfolding stopped_for
fit-stopped l v f =
    if_ind FitLine (marked l.setup.stop v) _ _ (λ _. with_paused l (error_for v) f (error_known_lem v)) (λ _. f)

pub fit-step1 : (l : Line) (s : Sample) → FitLine l → InRange s → FitLine (step1 l s)
unfolding step1 last_fit status_fit busy
fit-step1 l s f r =
    let sensor = settled-fit l.sensor l.setup.tc s.sensor (timers l.setup f.setup).tc r.sensor f.sensor in
    assumption (f, and_intro (and_intro r.gross r.safety) r.foreign, sensor)

-- ---- stopped and emergency

halted-fit : (l : Line) (s : ℕ) → FitLine l → status_fit (halted l s) ≡ true → FitLine (halted l s)
unfolding halted item_fit
halted-fit l s f h = assumption (f, h, all_off-fit)

stopped-status : (l : Line) → status_fit (halted l stopped) ≡ true
unfolding halted status_fit error_known busy
stopped-status l = rw all_off_idle

emergency-status : (l : Line) → status_fit (halted l emergency) ≡ true
unfolding halted status_fit error_known busy
emergency-status l = rw all_off_idle

pub fit_stop : (l : Line) → FitLine l → FitLine (halted l stopped)
fit_stop l f = halted-fit l stopped f (stopped-status l)

pub fit-emergency : (l : Line) → FitLine l → FitLine (halted l emergency)
fit-emergency l f = halted-fit l emergency f (emergency-status l)
