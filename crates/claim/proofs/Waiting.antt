-- No box is left waiting: the counted ticks of one event, and over every list a box's outcome on the last of them, not sooner where it is
-- weighed, and its own. Assumes nothing.
use mathlib.Core.Path.{◌≡◌, refl, ◌∙◌}
use mathlib.Core.Logic.{◌≢◌}
use mathlib.Core.Bool.{Bool, true, false, ◌&&◌, not, and-false}
use mathlib.Core.List.{List, [], ◌∷◌}
use Prim.Native.Nat.{ℕ, ◌+◌, ◌*◌, ◌≤◌}
use native.Mathlib.Omega.{arith}
use lib.Dec.{eqb}
use borrow.Author.Tests.{eqb-true, eqb-false}
use Rattle.laws.specs.Choice.{bit}
use Rattle.laws.proofs.Tests.{both, by_cases, never}
use Rattle.settings.specs.declared.Settings.{Settings}
use Rattle.event.specs.declared.Sample as sample
use Rattle.event.specs.declared.Event.{Event}
use Rattle.event.proofs.Facts.{InRange}
use Rattle.mask.specs.Bits.{lowest_off}
use Rattle.status.specs.Status.{running}
use Rattle.item.specs.Item.{in_hand}
use Rattle.item.proofs.Left.{some_left}
use Rattle.line.specs.Line.{is_running}
use Rattle.line.specs.Effect.{Effect, replied}
use Rattle.line.specs.Sample.{step1, running_tick, tick_of}
use Rattle.line.specs.Command.{ran}
use Rattle.line.specs.Tallying.{Out, recorded}
use Rattle.line.specs.State.{active_of}
use Rattle.line.specs.Step.{out_on}
use Rattle.line.specs.declared.line.Line.{Line}
use Rattle.line.proofs.Accepted.{numbered}
use Rattle.line.proofs.Facts.{FitLine}
use Rattle.line.proofs.Keeps.{error-none}
use Rattle.line.proofs.Left.{left_on, is_ninth, Times, Timed, Ticked, quiet-times, tick-times}
use Rattle.line.proofs.Ticks.{hand}
use Rattle.book.specs.Book.{Turn}
use Rattle.book.specs.Boxes.{detected_by, outcome_of, sum_over, detected_in, is_judged}
use Rattle.claim.specs.Run.{World, answer, after, run_from, run}
use Rattle.claim.specs.RunningTick.{is_running_tick}
use Rattle.claim.specs.Signals.{added_up}
use Rattle.claim.specs.Waiting.{is_counted, ticks_in, next_outcome, outcome_of_box, is_weighed, settled_in, Served, NoBoxWaits}
use Rattle.claim.proofs.Level.{apart, Level, level}
use Rattle.claim.proofs.Signals.{bit-most}
use Rattle.claim.proofs.RunningTicks.{ticks, Shows, recorded-shows, from-step1, step_told}
use Rattle.claim.proofs.Every.{Holds, answer_goes, holds_after, holds}

-- ---- one event

abbrev TimedOut : Line → ℕ → Out → Type 0
TimedOut l t o = Times l t o.line (detected_by o.reply) (outcome_of o.reply)

abbrev Counted : Line → Event → Out → Type 0
Counted l e o = TimedOut l (bit (is_counted l e o.reply)) o

shown : (l : Line) (t : ℕ) (x : Effect) (o : Out) → Shows x o → Timed l t x → TimedOut l t o
shown l t x o s w =
    record {
      falls = rw (s.outcome, s.item, s.setup) w.falls;
      last = rw s.outcome w.last;
      begins = rw (s.detected, s.outcome, s.item, s.setup) w.begins;
    }

-- seen from step 1, which leaves item and setup
not_ninth : (l : Line) → FitLine l → is_running l ≡ true → is_ninth l.error ≡ false
not_ninth l f r = rw (error-none l f.status (eqb-true l.status running r)) refl

-- a sample that is a running tick
tick-counted : (l : Line) (a : Settings) (s : sample.Sample) → FitLine l → InRange s → ticks l s ≡ true → Ticked l (running_tick (step1 l s) (tick_of l a s))
unfolding step1
tick-counted l a s f g t =
    let b = both (eqb s.emergency 0 && is_running l) (eqb (lowest_off l.setup.need s.safety) 0) t in
    let r = (both (eqb s.emergency 0) (is_running l) b.0).1 in
    from-step1 l s _ (running_tick (step1 l s) (tick_of l a s)) (tick-times (step1 l s) (tick_of l a s) f.item g.gross (not_ninth l f r))

answer-counted : (w : World) (e : Event) → Counted w.state.line e (out_on w.state e)
unfolding is_counted is_running_tick replied ran
answer-counted w e =
    let l = w.state.line in
    step_told (Counted l) w.state e
    (λ s f g t. let x = running_tick (step1 l s) (tick_of l (active_of w.state) s) in
    let shows = recorded-shows x (active_of w.state).target w.state.tallies in
    rw (shows.accepted, t, shows.error) (shown l _ x (recorded x (active_of w.state).target w.state.tallies) shows (tick-counted l (active_of w.state) s f g t)))
    (λ _. quiet-times l _ refl refl)
    (λ o _ c. rw c.tick c.times)
    (λ r. rw (numbered r) (quiet-times l l refl refl))

-- ---- the boxes that have their outcome

abbrev settled_by : ℕ → ℕ
settled_by o = is_judged o + 2 * bit (eqb o 7) + bit (eqb o 9) + bit (eqb o 10)

abbrev turn : World → Event → Turn
turn w e = record { event = e; reply = (answer w e).reply }

settled-more : (t : Turn) (h : List Turn) → settled_in (t ∷ h) ≡ settled_by (outcome_of t.reply) + settled_in h
unfolding sum_over
settled-more t h = omega arith

detected-more : (t : Turn) (h : List Turn) → detected_in (t ∷ h) ≡ detected_by t.reply + detected_in h
unfolding sum_over
detected-more t h = refl

settled_grows : (w : World) (es : List Event) → settled_in w.history ≤ settled_in (run_from w es).history
unfolding run_from
settled_grows w [] = omega arith
settled_grows w (e ∷ es) = omega (arith, settled_grows (after w e) es, settled-more (turn w e) w.history)

bit-one : (b : Bool) → 1 ≤ bit b → b ≡ true
bit-one true h = refl
bit-one false h = absurd (omega arith)

-- an outcome settles a box
settles : {d o z : ℕ} → Level 1 d o z → eqb o 0 ≡ false → 1 ≤ settled_by o
settles {d} {o} {z} v n =
    let last : z ≡ bit (eqb d 1 && not (eqb o 7)) = rw (n, and-false) at v.last in
    by_cases (eqb d 1)
    (λ y. omega (arith, v.flow, last, eqb-true d 1 y, bit-most (eqb d 1 && not (eqb o 7))))
    (λ m. omega (arith, v.flow, rw m at last))

-- ---- every list

-- a weighed outcome is none of these
not_weighed : (o k : ℕ) → is_weighed k ≡ false → is_weighed o ≡ true → eqb o k ≡ false
not_weighed o k n h = apart (λ v. not (is_weighed v)) o k (rw n refl) (rw h refl)

-- a box in hand and the events to come
record Follows (w : World) (es : List Event) : Type 0 where
  limit : left_on w.state.line ≤ ticks_in w es → next_outcome w es ≢ 0
  sooner : is_weighed (next_outcome w es) ≡ true → left_on w.state.line ≤ ticks_in w es
  none : next_outcome w es ≡ 0 → (detected_in (run_from w es).history ≡ detected_in w.history) × (settled_in (run_from w es).history ≡ settled_in w.history)
  some : next_outcome w es ≢ 0 → settled_in w.history + 1 ≤ settled_in (run_from w es).history

-- the first of them gives no outcome: the box is in hand after it, and no other was detected
none-follows :
    (w : World) (e : Event) (es : List Event) → Holds w → in_hand w.state.line.item ≡ true → eqb (outcome_of (answer w e).reply) 0 ≡ true
    → detected_by (answer w e).reply ≡ 0
    → Follows (after w e) es → Follows w (e ∷ es)
unfolding added_up next_outcome run_from
none-follows w e es h i y d r =
    let z = eqb-true (outcome_of (answer w e).reply) 0 y in
    let falls = (answer-counted w e).falls i z in
    let zero : settled_by (outcome_of (answer w e).reply) ≡ 0 = rw z refl in
    let settled : settled_in (after w e).history ≡ settled_in w.history = omega (arith, settled-more (turn w e) w.history, zero) in
    let detected : detected_in (after w e).history ≡ detected_in w.history = omega (arith, detected-more (turn w e) w.history, d) in
    record {
      limit = λ b. rw y (r.limit (omega (arith, b, falls)));
      sooner = λ b. omega (arith, falls, r.sooner (rw y at b));
      none = λ b. let x = r.none (rw y at b) in (x.0 ∙ detected, x.1 ∙ settled);
      some = λ b. omega (arith, settled, r.some (rw y at b));
    }

-- the first of them gives an outcome
one_follows :
    (w : World) (e : Event) (es : List Event) → Holds w → in_hand w.state.line.item ≡ true → eqb (outcome_of (answer w e).reply) 0 ≡ false
    → 1 ≤ settled_by (outcome_of (answer w e).reply)
    → Follows w (e ∷ es)
unfolding added_up next_outcome run_from
one_follows w e es h i n s =
    let o = outcome_of (answer w e).reply in
    record {
      limit = λ _. rw n (eqb-false o 0 n);
      sooner = λ b. let wo : is_weighed o ≡ true = rw n at b in
          omega (arith, (answer-counted w e).last i n (not_weighed o 7 refl wo) (not_weighed o 10 refl wo));
      none = λ b. absurd (eqb-false o 0 n (rw n at b));
      some = λ _. omega (arith, s, settled-more (turn w e) w.history, settled_grows (after w e) es);
    }

follows : (w : World) (es : List Event) → Holds w → in_hand w.state.line.item ≡ true → Follows w es
unfolding added_up next_outcome run_from
follows w [] h i =
    record {
      limit = λ b. absurd (omega (arith, b, some_left w.state.line.item w.state.line.setup h.given.fit.item i));
      sooner = λ b. never b;
      none = λ _. (refl, refl);
      some = λ b. absurd (b refl);
    }
follows w (e ∷ es) h i =
    let o = outcome_of (answer w e).reply in
    let d = detected_by (answer w e).reply in
    let v : Level 1 d o (hand (answer w e).state.line) = rw i at (level (answer_goes w e h).boxes) in
    by_cases (eqb o 0)
    (λ y. let flow : 1 + d ≡ hand (answer w e).state.line = omega (arith, rw (eqb-true o 0 y) at v.flow) in
    let most = bit-most (in_hand (answer w e).state.line.item) in
    none-follows w e es h i y (omega (arith, flow, most))
    (follows (after w e) es (holds_after w e h) (bit-one _ (omega (arith, flow)))))
    (λ n. one_follows w e es h i n (settles v n))

-- a box in hand after its detection
first-served : (w : World) (e : Event) (es : List Event) → Holds w → detected_by (answer w e).reply ≡ 1 → eqb (outcome_of (answer w e).reply) 7 ≡ false → hand (answer w e).state.line ≡ 1 → Served w e es
unfolding outcome_of_box
first-served w e es h d n i =
    let next = holds_after w e h in
    let r = follows (after w e) es next (bit-one _ (omega (arith, i))) in
    let begins = (answer-counted w e).begins d n in
    let one : detected_in (after w e).history ≡ settled_in (after w e).history + 1 = omega (arith, next.balance, next.item, i) in
    record {
      limit = λ b. rw n (r.limit (omega (arith, b, begins)));
      soonest = λ b. omega (arith, begins, r.sooner (rw n at b));
      newest = λ b. (r.none (rw n at b)).0;
      alone = λ b. let x = r.none (rw n at b) in omega (arith, x.0, x.1, one);
      settled = λ b. omega (arith, one, r.some (rw n at b));
    }

-- the second of a two-on
second-served : (w : World) (e : Event) (es : List Event) → Holds w → eqb (outcome_of (answer w e).reply) 7 ≡ true → hand (answer w e).state.line ≡ 0 → Served w e es
unfolding outcome_of_box
second-served w e es h y i =
    let next = holds_after w e h in
    record {
      limit = λ _. rw y (λ z. omega (arith, z));
      soonest = λ b. never (rw y at b);
      newest = λ b. absurd (omega (arith, rw y at b));
      alone = λ b. absurd (omega (arith, rw y at b));
      settled = λ _. omega (arith, next.balance, next.item, i, settled_grows (after w e) es);
    }

-- wherever in a list of events its detection stands
pub box_served : (before : List Event) (e : Event) (between : List Event) → detected_by (answer (run before) e).reply ≡ 1 → Served (run before) e between
box_served before e between d =
    let w = run before in
    let o = outcome_of (answer w e).reply in
    let h = holds before in
    let last : hand (answer w e).state.line ≡ bit (not (eqb o 7)) = rw d at (level (answer_goes w e h).boxes).last in
    by_cases (eqb o 7)
    (λ y. second-served w e between h y (rw y at last))
    (λ n. first-served w e between h d n (rw n at last))

pub no_box_waits : NoBoxWaits
no_box_waits events before e between rest _ d = box_served before e between d
