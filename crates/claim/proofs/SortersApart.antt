-- What an event makes of each sorter by itself. Assumes nothing.
use mathlib.Core.Path.{◌≡◌, refl, ap, ◌∙◌}
use mathlib.Core.Bool.{true, false, not}
use mathlib.Core.List.{List, [], ◌∷◌}
use Prim.Native.Nat.{ℕ, zero, suc, ◌<◌}
use native.Mathlib.Omega.{arith}
use lib.Dec.{ltb}
use lib.IntN.{ℤ}
use lib.ListN.{length, get_or, get_or-replicate}
use borrow.Author.Tests.{eqb-true, eqb-false, ltb-false, not-false}
use Rattle.std.proofs.lemmas.List.{nil_from_length}
use Rattle.laws.proofs.Tests.{neither, by_cases, never}
use Rattle.lists.specs.Each.{any_of}
use Rattle.lists.proofs.Pairs.{pair-at, pairs_length}
use Rattle.settings.specs.declared.Settings.{Settings}
use Rattle.queue.specs.Queue.{waits_of, laid, waiting, is_empty}
use Rattle.device.specs.Sorter.{sorting, sorter_off}
use Rattle.device.specs.declared.sorter.Sorter.{Sorter}
use Rattle.event.specs.Setup.{fresh_sorter, sorter_count}
use Rattle.event.specs.declared.Sample as sample
use Rattle.event.specs.declared.Event.{Event}
use Rattle.event.proofs.Facts.{timers}
use Rattle.event.specs.declared.Event.TheVariants.{Sample, Run}
use Rattle.sorters.specs.Sorters.{ticked_as, entered, all_ticked, all_entered, any_sorting, all_off}
use Rattle.line.specs.Fit.{status_fit}
use Rattle.line.specs.Effect.{replied}
use Rattle.line.specs.Sample.{step1, running_tick, tick_of}
use Rattle.line.specs.Command.{ran}
use Rattle.line.specs.Tallying.{Out, untallied, recorded}
use Rattle.line.specs.State.{State, active_of}
use Rattle.refusal.specs.Table.{number_of}
use Rattle.line.specs.Step.{out_on}
use Rattle.line.specs.declared.line.Line.{Line}
use Rattle.line.proofs.Accepted.{numbered}
use Rattle.line.proofs.Facts.{halted_empty}
use Rattle.line.proofs.Sorting.{tick-sorts}
use Rattle.book.specs.Boxes.{outcome_of}
use Rattle.claim.specs.Claim.{refusal_in}
use Rattle.claim.specs.RunningTick.{is_running_tick}
use Rattle.claim.specs.SortersApart.{is_halted, sorter_after, sorter_of, set_of, SameSorter, SortersApart}
use Rattle.claim.proofs.RunningTicks.{ticks, recorded-shows, Rests, stays, rests, step_told}

-- ---- off, and idle

idle_off : (s : Sorter) → sorting s ≡ false → SameSorter s sorter_off
unfolding sorting sorter_off is_empty waiting waits_of laid
idle_off s h =
    let b = neither (not (is_empty s.queue)) (ltb 0 s.on) h in
    let e : is_empty s.queue ≡ true = not-false _ b.0 in
    record {
      queue = nil_from_length (waits_of s.queue) (eqb-true (waiting s.queue) 0 e);
      on = omega (arith, ltb-false 0 s.on b.1);
    }

idle_at : (ss : List Sorter) (k : ℕ) → any_sorting ss ≡ false → SameSorter (get_or ss k sorter_off) sorter_off
unfolding any_sorting any_of
idle_at [] k h = record { queue = refl; on = refl }
idle_at (s ∷ ss) zero h = idle_off s (neither (sorting s) (any_of sorting ss) h).0
idle_at (s ∷ ss) (suc k) h = idle_at ss k (neither (sorting s) (any_of sorting ss) h).1

all_off-at : (k : ℕ) → k < sorter_count → get_or all_off k sorter_off ≡ sorter_off
unfolding all_off
all_off-at k h = get_or-replicate sorter_count k sorter_off sorter_off h

-- ---- one sorter

same-sorter : (s t : Sorter) → s ≡ t → SameSorter s t
same-sorter s t e = record { queue = ap (λ (u : Sorter). waits_of u.queue) e; on = ap (λ (u : Sorter). u.on) e }

tick-apart : (l m : Line) (v status k : ℕ) → length l.sorters ≡ sorter_count → length l.setup.sorters ≡ sorter_count → k < sorter_count
    → m.sorters ≡ all_entered v (all_ticked l.sorters l.setup.sorters) l.setup.sorters
    → SameSorter (sorter_of m k) (sorter_after (sorter_of l k) (set_of l k) true v status)
unfolding sorter_after all_entered all_ticked
tick-apart l m v status k n six h e =
    let cs = l.setup.sorters in
    let ticked = all_ticked l.sorters cs in
    same-sorter _ _
    (ap (λ (ss : List Sorter). get_or ss k sorter_off) e
    ∙ pair-at (entered v) ticked cs k sorter_off fresh_sorter (omega (arith, pairs_length ticked_as l.sorters cs, n, h)) (omega (arith, six, h))
    ∙ ap (λ (s : Sorter). entered v s (set_of l k)) (pair-at ticked_as l.sorters cs k sorter_off fresh_sorter (omega (arith, n, h)) (omega (arith, six, h))))

rest-apart : (l m : Line) (v k : ℕ) → k < sorter_count → status_fit l ≡ true → Rests l m → SameSorter (sorter_of m k) (sorter_after (sorter_of l k) (set_of l k) false v m.status)
unfolding sorter_after
rest-apart l m v k low fit (rests s h) =
    rw h (same-sorter _ _ (ap (λ (ss : List Sorter). get_or ss k sorter_off) s ∙ all_off-at k low))
rest-apart l m v k low fit (stays s q) =
    by_cases (is_halted m.status)
    (λ h. rw (h, s) (idle_at l.sorters k (halted_empty l fit (q h)).1))
    (λ h. rw (h, s) (record { queue = refl; on = refl }))

abbrev Apart : Line → ℕ → Event → Out → Type 0
Apart l k e o =
    refusal_in o.reply ≡ 0
    → SameSorter (sorter_of o.line k) (sorter_after (sorter_of l k) (set_of l k) (is_running_tick l e o.reply) (outcome_of o.reply) o.line.status)

tick_moves : (l : Line) (a : Settings) (ts : List ℤ) (s : sample.Sample) (k : ℕ) → length l.sorters ≡ sorter_count → length l.setup.sorters ≡ sorter_count → k < sorter_count → ticks l s ≡ true
    → Apart l k (Sample s) (recorded (running_tick (step1 l s) (tick_of l a s)) a.target ts)
unfolding is_running_tick step1
tick_moves l a ts s k n six h t _ =
    let o = recorded (running_tick (step1 l s) (tick_of l a s)) a.target ts in
    let shows = recorded-shows (running_tick (step1 l s) (tick_of l a s)) a.target ts in
    let is : is_running_tick l (Sample s) o.reply ≡ true = rw shows.accepted t in
    rw is (tick-apart l o.line (outcome_of o.reply) o.line.status k n six h (rw (shows.sorters, shows.outcome) (tick-sorts (step1 l s) (tick_of l a s))))

rest_moves : (l : Line) (e : Event) (o : Out) (k : ℕ) → k < sorter_count → status_fit l ≡ true → is_running_tick l e o.reply ≡ false → Rests l o.line → Apart l k e o
rest_moves l e o k h fit n r _ = rw n (rest-apart l o.line (outcome_of o.reply) k h fit r)

step-apart : (s : State) (e : Event) (k : ℕ) → length s.line.sorters ≡ sorter_count → k < sorter_count
    → refusal_in (out_on s e).reply ≡ 0
    → SameSorter (sorter_of (out_on s e).line k)
    (sorter_after (sorter_of s.line k) (set_of s.line k) (is_running_tick s.line e (out_on s e).reply) (outcome_of (out_on s e).reply) (out_on s e).line.status)
unfolding is_running_tick replied ran
step-apart s e k n h =
    let l = s.line in
    step_told (Apart l k) s e
    (λ x f _ t. tick_moves l (active_of s) s.tallies x k n (timers l.setup f.setup).six h t)
    (λ f. rest_moves l Run (untallied (ran l) s.tallies) k h f.status refl (stays refl (λ p. never p)))
    (λ o f c. rest_moves l e o k h f.status c.tick c.sorters)
    (λ r z. absurd (eqb-false (number_of r) 0 (numbered r) z))

pub sorters_apart : SortersApart
sorters_apart = record { each = step-apart }
