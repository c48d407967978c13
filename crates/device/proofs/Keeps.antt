-- What a tick keeps: times stay from 0 to 9,999, levels 0 or 1, the sorter fit; one at rest stays. Assumes nothing.
use mathlib.Core.Path.{◌≡◌, refl, sym, ◌∙◌}
use mathlib.Core.Bool.{Bool, true, false, ◌||◌, not}
use mathlib.Core.List.{[]}
use Prim.Native.Nat.{ℕ, ◌+◌, ◌≤◌, max}
use native.Mathlib.Omega.{arith}
use lib.Dec.{leb, ltb, eqb}
use borrow.Author.Tests.{leb-true, le-leb, leb-false, ltb-false, eqb-true}
use Rattle.laws.specs.Choice.{within}
use Rattle.laws.proofs.Tests.{both, and_intro, if_ind, never}
use Rattle.lists.specs.Each.{all_of}
use Rattle.time.specs.Time.{longest, is_time, fallen}
use lib.ListN.{length}
use Rattle.queue.specs.Queue.{places, waits_of, laid, waiting, is_empty, one_ends, queue_fit}
use Rattle.queue.proofs.Keeps.{laid-fit, queue_ticked-fit, joined-fit}
use Rattle.queue.proofs.Waits.{empty_stays, none_ends, empty_is}
use Rattle.queue.specs.declared.Queue.{Queue}
use Rattle.device.specs.Sensor.{settled, sensor_fit}
use Rattle.device.specs.Sorter.{sorting, sorter_ticked, queued, sorter_off, sorter_fit}
use Rattle.device.specs.declared.sensor.Sensor.{Sensor}
use Rattle.device.specs.declared.sorter.Sorter.{Sorter}

-- ---- the sensor

pub settled-fit : (s : Sensor) (tc level : ℕ) → tc ≤ longest → level ≤ 1 → sensor_fit s ≡ true → sensor_fit (settled s tc level) ≡ true
unfolding settled sensor_fit
settled-fit s tc level t l h =
    let b = both (leb s.level 1) (is_time s.run) h in
    if_ind (λ (k : Sensor). sensor_fit k ≡ true) (eqb level s.level) _ _
    (λ _. and_intro b.0 refl)
    (λ _. if_ind (λ (k : Sensor). sensor_fit k ≡ true) (leb (max 1 tc) (s.run + 1)) _ _
    (λ _. and_intro (le-leb level 1 l) refl)
    (λ f. and_intro b.0 (le-leb (s.run + 1) longest (omega (arith, leb-false (max 1 tc) (s.run + 1) f)))))

-- ---- the sorter

pub ticked-fit : (s : Sorter) (to : ℕ) → to ≤ longest → sorter_fit s ≡ true → sorter_fit (sorter_ticked s to) ≡ true
unfolding sorter_fit sorter_ticked
ticked-fit s to t h =
    let b = both (queue_fit s.queue 1) (is_time s.on) h in
    and_intro (queue_ticked-fit s.queue b.0)
    (if_ind (λ (n : ℕ). is_time n ≡ true) (one_ends s.queue) _ _
    (λ _. le-leb to longest t)
    (λ _. le-leb (fallen s.on) longest (omega (arith, leb-true s.on longest b.1))))

pub queued-fit : (s : Sorter) (ts : ℕ) → within 1 longest ts ≡ true → sorter_fit s ≡ true → sorter_fit (queued s ts) ≡ true
unfolding sorter_fit queued
queued-fit s ts t h =
    let b = both (queue_fit s.queue 1) (is_time s.on) h in
    and_intro (joined-fit s.queue ts 1 t b.0) b.1

pub off-fit : sorter_fit sorter_off ≡ true
unfolding sorter_fit sorter_off all_of
off-fit = and_intro (laid-fit [] 1 (omega arith) refl) refl

pub off_idle : sorting sorter_off ≡ false
unfolding sorting sorter_off is_empty waiting waits_of laid
off_idle = refl

-- ---- at rest: nothing waits, and it is off

neither : (a b : Bool) → (not a || b) ≡ false → (a ≡ true) × (b ≡ false)
neither true b h = (refl, h)
neither false b h = never (sym h)

pub idle_stays : (s : Sorter) (to : ℕ) → sorting s ≡ false → sorter_ticked s to ≡ s
unfolding sorting sorter_ticked
idle_stays s to h =
    let r = neither (is_empty s.queue) (ltb 0 s.on) h in
    let off : fallen s.on ≡ s.on = omega (arith, ltb-false 0 s.on r.1) in
    rw (empty_stays s.queue r.0, none_ends s.queue r.0, off) refl

empty-fit : (q : Queue) (shortest : ℕ) → length q.waits ≡ places → is_empty q ≡ true → queue_fit q shortest ≡ true
unfolding queue_fit waits_of all_of
empty-fit q shortest w e =
    let none : q.n ≡ 0 = eqb-true q.n 0 (empty_is q w ∙ e) in
    rw none refl

pub idle_fit : (s : Sorter) → length s.queue.waits ≡ places → sorting s ≡ false → sorter_fit s ≡ true
unfolding sorting sorter_fit
idle_fit s w h =
    let r = neither (is_empty s.queue) (ltb 0 s.on) h in
    and_intro (empty-fit s.queue 1 w r.0) (le-leb s.on longest (omega (arith, ltb-false 0 s.on r.1)))
