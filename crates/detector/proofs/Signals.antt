-- What the detector carries: after a fall, after one more, with one used up. Assumes nothing.
use mathlib.Core.Path.{◌≡◌, refl, sym, ap, ◌∙◌}
use mathlib.Core.Bool.{Bool, true, false, ◌&&◌, not}
use mathlib.Core.List.{List, [], map}
use Prim.Native.Nat.{ℕ, ◌+◌, ◌≤◌}
use native.Mathlib.Omega.{arith}
use lib.Dec.{leb}
use lib.ListN.{length, length-map}
use borrow.Author.Tests.{leb-true, le-leb}
use Rattle.laws.specs.Choice.{bit, within}
use Rattle.laws.proofs.Tests.{both, and_intro, if_ind}
use Rattle.lists.specs.Each.{any_of, all_of, without_first}
use Rattle.lists.proofs.Each.{one-counted, first-less, first_keeps, map_keeps}
use Rattle.time.specs.Time.{longest, fallen, ended, is_time}
use Rattle.queue.specs.Queue.{places, waiting, is_empty, is_full, queue_fit}
use Rattle.queue.proofs.Waits.{waits-laid, joined-waiting}
use Rattle.queue.proofs.Keeps.{laid-fit, joined-fit, fit_tells}
use Rattle.detector.specs.Foreign.{signals_of, carrying, carried, eight_carried, ended_in, due, delays_fallen, signalled, foreign_ticked, oldest_used, no_signal, foreign_fit}
use Rattle.detector.specs.declared.Foreign.{Foreign}

pub due_any : (f : Foreign) → due f ≡ any_of ended (signals_of f)
unfolding due ended_in
due_any f = one-counted ended (signals_of f)

-- ---- how many are carried

carried-laid : (l : List ℕ) → carried (carrying l) ≡ length l
unfolding carried signals_of carrying
carried-laid l = ap length (waits-laid l)

carried-is : (f : Foreign) → carried f ≡ length (signals_of f)
unfolding carried
carried-is f = refl

-- that the delays fall alters no number of signals
fallen-carried : (f : Foreign) → carried (delays_fallen f) ≡ carried f
unfolding delays_fallen
fallen-carried f =
    if_ind (λ (g : Foreign). carried g ≡ carried f) (is_empty f.signals) _ _
    (λ _. refl)
    (λ _. carried-laid (map fallen (signals_of f)) ∙ length-map (signals_of f) fallen ∙ sym (carried-is f))

signalled-carried : (f : Foreign) (tf : ℕ) → is_time tf ≡ true → carried (signalled f tf) ≡ carried f + bit (not (eight_carried f))
unfolding signalled carried signals_of eight_carried is_full waiting
signalled-carried f tf t = joined-waiting f.signals tf t

-- a running tick carries one more where the level rose and fewer than eight were carried
pub ticked-carried : (f : Foreign) (rises : Bool) (tf : ℕ) → is_time tf ≡ true → carried (foreign_ticked f rises tf) ≡ carried f + bit (rises && not (eight_carried f))
unfolding foreign_ticked eight_carried
ticked-carried f true tf t = signalled-carried (delays_fallen f) tf t ∙ rw (fallen-carried f) refl
ticked-carried f false tf t = omega (arith, fallen-carried f)

-- one that is due and used up is carried no more
pub used_carried : (f : Foreign) → due f ≡ true → carried (oldest_used f) + 1 ≡ carried f
unfolding oldest_used
used_carried f h =
    let one : any_of ended (signals_of f) ≡ true = sym (due_any f) ∙ h in
    let less : length (without_first ended (signals_of f)) + 1 ≡ length (signals_of f) = rw one at (first-less ended (signals_of f)) in
    rw (carried-laid (without_first ended (signals_of f))) (less ∙ sym (carried-is f))

-- ---- a fit detector stays fit

delays-fit : (f : Foreign) → foreign_fit f ≡ true → foreign_fit (delays_fallen f) ≡ true
unfolding foreign_fit delays_fallen carrying signals_of waiting
delays-fit f h =
    let b = fit_tells f.signals 0 h in
    let fell = map fallen (signals_of f) in
    if_ind (λ (g : Foreign). queue_fit g.signals 0 ≡ true) (is_empty f.signals) _ _
    (λ _. h)
    (λ _. laid-fit fell 0 (omega (arith, length-map (signals_of f) fallen, b.0)) (map_keeps (within 0 longest) fallen still (signals_of f) b.1))
  where
    still : (t : ℕ) → within 0 longest t ≡ true → within 0 longest (fallen t) ≡ true
    still t k = let b = both (leb 0 t) (leb t longest) k in and_intro (le-leb 0 (fallen t) (omega arith)) (le-leb (fallen t) longest (omega (arith, leb-true t longest b.1)))

signalled-fit : (f : Foreign) (tf : ℕ) → tf ≤ longest → foreign_fit f ≡ true → foreign_fit (signalled f tf) ≡ true
unfolding foreign_fit signalled
signalled-fit f tf t h = joined-fit f.signals tf 0 (and_intro (le-leb 0 tf (omega arith)) (le-leb tf longest t)) h

pub foreign_ticked-fit : (f : Foreign) (rises : Bool) (tf : ℕ) → tf ≤ longest → foreign_fit f ≡ true → foreign_fit (foreign_ticked f rises tf) ≡ true
unfolding foreign_ticked
foreign_ticked-fit f true tf t h = signalled-fit (delays_fallen f) tf t (delays-fit f h)
foreign_ticked-fit f false tf t h = delays-fit f h

pub used_fit : (f : Foreign) → foreign_fit f ≡ true → foreign_fit (oldest_used f) ≡ true
unfolding foreign_fit oldest_used carrying signals_of waiting
used_fit f h =
    let b = fit_tells f.signals 0 h in
    let l = signals_of f in
    laid-fit (without_first ended l) 0 (omega (arith, first-less ended l, b.0)) (first_keeps ended (within 0 longest) l b.1)

pub none-fit : foreign_fit no_signal ≡ true
unfolding foreign_fit no_signal carrying all_of
none-fit = laid-fit [] 0 (omega arith) refl

-- "A fit line carries at most eight"
pub few-carried : (f : Foreign) → foreign_fit f ≡ true → carried f ≤ places
unfolding foreign_fit carried signals_of waiting
few-carried f h = (fit_tells f.signals 0 h).0
