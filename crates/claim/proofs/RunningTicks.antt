-- What an event comes to that is accepted: a running tick, with steps 4 to 7; a run; or what leaves the foreign signals and the
-- bench as they are, detects nothing and gives no verdict. Assumes nothing.
use mathlib.Core.Path.{◌≡◌, refl, sym, ◌∙◌}
use mathlib.Core.Bool.{Bool, true, false, ◌&&◌}
use mathlib.Core.List.{List}
use Prim.Native.Nat.{ℕ, ◌≤◌}
use native.Mathlib.Omega.{arith}
use lib.Dec.{eqb}
use lib.IntN.{ℤ}
use Rattle.std.specs.Prelude.{Option, None}
use lib.ListN.{length}
use borrow.Author.Tests.{eqb-true, eqb-false, eq-eqb, ne_eqb, leb-true}
use Rattle.laws.proofs.Tests.{both, by_cases, if_ind, clash, never}
use Rattle.mask.specs.Bits.{lowest_off}
use Rattle.settings.specs.declared.Settings.{Settings}
use Rattle.event.specs.Event.{event_ranged}
use Rattle.event.specs.Reply.{no_error}
use Rattle.event.specs.declared.Sample as sample
use Rattle.event.specs.declared.Setup as setup
use Rattle.event.specs.declared.Event.{Event}
use Rattle.event.specs.declared.Event.TheVariants.{Sample, Run, Stop, Emergency, Recall, Cancel, ClearCode, ClearAll, ErrorReset, Setup}
use Rattle.event.proofs.Facts.{InRange, in_range}
use Rattle.refusal.proofs.Status.{setup-stopped}
use Rattle.refusal.specs.declared.Refusal.{Refusal}
use Rattle.sorters.specs.Sorters.{all_off}
use Rattle.item.specs.Item.{in_hand}
use Rattle.part.specs.declared.part.Part.{Part}
use Rattle.verdict.specs.Verdict.{is_verdict}
use Rattle.status.specs.Status.{stopped, running, paused, emergency, plain_error, unsafe_error}
use Rattle.line.specs.Line.{is_running, busy, with_status, with_setup}
use Rattle.line.specs.Effect.{Effect, plain, halted, halting, replied}
use Rattle.line.specs.Command.{ran, stopping, alarmed}
use Rattle.line.specs.State.{State, active_of}
use Rattle.line.specs.Step.{accepted, refused, out_on}
use Rattle.line.specs.Tallying.{Out, untallied, noted, recorded, code_cleared}
use Rattle.line.specs.Sample.{step1, step2, step3, guarded, from_step3, running_tick, sampled, tick_of}
use Rattle.line.specs.declared.line.Line.{Line}
use Rattle.book.specs.Boxes.{detected_by, outcome_of}
use Rattle.claim.specs.Claim.{refusal_in}
use Rattle.claim.specs.Waiting.{error_in}
use Rattle.claim.specs.RunningTick.{is_running_tick}
use Rattle.claim.specs.SortersApart.{is_halted}
use Rattle.line.proofs.Facts.{FitLine, fit_tells, status_tells, halted_empty}
use Rattle.line.proofs.Accepted.{Accepted, sound_tells, step_ind}
use Rattle.line.proofs.Left.{Times, Timed, quiet-times, halting-times}

-- the test of a sample on a line, in the words of steps 2 and 3
abbrev pub ticks : Line → sample.Sample → Bool
ticks l s = eqb s.emergency 0 && is_running l && eqb (lowest_off l.setup.need s.safety) 0

-- what a sample hands back shows its effect
pub record Shows (x : Effect) (o : Out) : Type 0 where
  pub foreign : o.line.foreign ≡ x.line.foreign
  pub sorters : o.line.sorters ≡ x.line.sorters
  pub status : o.line.status ≡ x.line.status
  pub bench : o.line.bench ≡ x.line.bench
  pub item : o.line.item ≡ x.line.item
  pub setup : o.line.setup ≡ x.line.setup
  pub error : error_in o.reply ≡ x.line.error
  pub detected : detected_by o.reply ≡ x.detected
  pub outcome : outcome_of o.reply ≡ x.outcome
  pub accepted : refusal_in o.reply ≡ 0

pub recorded-shows : (x : Effect) (target : ℤ) (ts : List ℤ) → Shows x (recorded x target ts)
unfolding recorded noted replied
recorded-shows x target ts =
    if_ind (Shows x) (is_verdict x.outcome) (noted x target ts) (untallied x ts)
    (λ _. assumption)
    (λ _. assumption)

pub tick_told : (l : Line) (a : Settings) (s : sample.Sample) → ticks l s ≡ true → sampled l a s ≡ running_tick (step1 l s) (tick_of l a s)
unfolding sampled from_step3 step1 step2 step3 guarded
tick_told l a s h =
    let n = both (eqb s.emergency 0 && is_running l) (eqb (lowest_off l.setup.need s.safety) 0) h in
    let b = both (eqb s.emergency 0) (is_running l) n.0 in
    let z : s.emergency ≡ 0 = eqb-true s.emergency 0 b.0 in
    let r : l.status ≡ running = eqb-true l.status running b.1 in
    rw (ne_eqb s.emergency 1 (λ e. omega (arith, z, e)), ne_eqb l.status emergency (λ e. omega (arith, r, e)), n.1, b.1)

-- what a sample that is no running tick can come to: status 3 or 0 entered, a needed input off, or no more than step 1
quiet_ind :
    (P : Effect → Type 0) (l : Line) (a : Settings) (s : sample.Sample)
    → s.emergency ≤ 1
    → ticks l s ≡ false
    → ((status : ℕ) → is_halted status ≡ true → P (halting (step1 l s) status))
    → P (plain (with_status (step1 l s) paused unsafe_error))
    → P (plain (step1 l s))
    → P (sampled l a s)
unfolding sampled from_step3 step1 step2 step3 guarded halting halted
quiet_ind P l a s low n halts unsafe ends =
    by_cases (eqb s.emergency 1)
    (λ h. rw h (halts emergency refl))
    (λ h. by_cases (eqb l.status emergency)
    (λ g. rw (h, g) (halts stopped refl))
    (λ g. by_cases (eqb l.status running)
    (λ r. let z : eqb s.emergency 0 ≡ true = eq-eqb s.emergency 0 (omega (arith, eqb-false s.emergency 1 h)) in
    let t : eqb (lowest_off l.setup.need s.safety) 0 ≡ false = rw (z, r) at n in
    rw (h, g, r, t) unsafe)
    (λ r. rw (h, g, r) ends)))

-- ---- what is no running tick

-- the sorters stay, and the line enters no rest; or it rests, and all are off
pub data Rests (l : Line) (m : Line) : Type 0 where
  stays : m.sorters ≡ l.sorters → (is_halted m.status ≡ true → is_halted l.status ≡ true) → Rests l m
  rests : m.sorters ≡ all_off → is_halted m.status ≡ true → Rests l m

-- nothing is detected, no verdict is given, and signals and bench stay
pub record Quiet (l : Line) (x : Effect) : Type 0 where
  pub foreign : x.line.foreign ≡ l.foreign
  pub bench : x.line.bench ≡ l.bench
  pub detected : x.detected ≡ 0
  pub verdict : is_verdict x.outcome ≡ false
  pub sorters : Rests l x.line
  pub times : Timed l 0 x

pub halting_quiet : (l : Line) (s : ℕ) → is_halted s ≡ true → Quiet l (halting l s)
unfolding halting halted
halting_quiet l s h =
    record {
      foreign = refl;
      bench = refl;
      detected = refl;
      verdict = if_ind (λ (o : ℕ). is_verdict o ≡ false) (in_hand l.item) 10 0 (λ _. refl) (λ _. refl);
      sorters = rests refl h;
      times = halting-times l s;
    }

paused_quiet : (l : Line) (error : ℕ) → Quiet l (plain (with_status l paused error))
paused_quiet l error =
    record { foreign = refl; bench = refl; detected = refl; verdict = refl; sorters = stays refl (λ h. never h); times = quiet-times l _ refl refl }

-- code, chance to cancel and error anew
same_quiet : (l : Line) (c : ℕ) (u : Option Part) (e : ℕ) → Quiet l (plain (record l { code = c; undo = u; error = e }))
same_quiet l c u e =
    record { foreign = refl; bench = refl; detected = refl; verdict = refl; sorters = stays refl (λ h. h); times = quiet-times l _ refl refl }

-- a setup is accepted with nothing in hand
set_up_quiet : (l : Line) (s : setup.Setup) → in_hand l.item ≡ false → Quiet l (plain (with_setup l s))
set_up_quiet l s n =
    record {
      foreign = refl;
      bench = refl;
      detected = refl;
      verdict = refl;
      sorters = stays refl (λ h. h);
      times = record { falls = λ i _. never (sym n ∙ i); last = λ i _ _ _. never (sym n ∙ i); begins = λ d _. clash d };
    }

pub stop_quiet : (l : Line) → Quiet l (stopping l)
unfolding stopping
stop_quiet l =
    if_ind (Quiet l) (is_running l && busy l) _ _ (λ _. paused_quiet l plain_error)
    (λ _. if_ind (Quiet l) (eqb l.status stopped) _ _ (λ _. same_quiet l l.code l.undo l.error) (λ _. halting_quiet l stopped refl))

cleared_quiet : (l : Line) (c : ℕ) → Quiet l (plain (code_cleared l c))
unfolding code_cleared
cleared_quiet l c =
    if_ind (λ (k : Line). Quiet l (plain k)) (eqb c l.code) _ _ (λ _. same_quiet l l.code None l.error) (λ _. same_quiet l l.code l.undo l.error)

-- seen from step 1, which leaves item and setup
pub from-step1 : (l : Line) (s : sample.Sample) (t : ℕ) (x : Effect) → Timed (step1 l s) t x → Timed l t x
unfolding step1
from-step1 l s t x w = record { falls = w.falls; last = w.last; begins = w.begins }

sample_quiet : (l : Line) (a : Settings) (s : sample.Sample) → s.emergency ≤ 1 → ticks l s ≡ false → Quiet l (sampled l a s)
unfolding step1 halting halted
sample_quiet l a s low n =
    quiet_ind (Quiet l) l a s low n
    (λ status h. let q = halting_quiet (step1 l s) status h in
    record { foreign = q.foreign; bench = q.bench; detected = q.detected; verdict = q.verdict; sorters = rests refl h; times = from-step1 l s 0 (halting (step1 l s) status) q.times })
    (record { foreign = refl; bench = refl; detected = refl; verdict = refl; sorters = stays refl (λ h. never h); times = quiet-times l _ refl refl })
    (record { foreign = refl; bench = refl; detected = refl; verdict = refl; sorters = stays refl (λ h. h); times = quiet-times l _ refl refl })

-- ---- an accepted event

-- what an event leaves that is neither a running tick nor a run
pub record Calm (l : Line) (e : Event) (o : Out) : Type 0 where
  pub accepted : refusal_in o.reply ≡ 0
  pub tick : is_running_tick l e o.reply ≡ false
  pub foreign : o.line.foreign ≡ l.foreign
  pub bench : o.line.bench ≡ l.bench
  pub detected : detected_by o.reply ≡ 0
  pub verdict : is_verdict (outcome_of o.reply) ≡ false
  pub sorters : Rests l o.line
  pub times : Times l 0 o.line (detected_by o.reply) (outcome_of o.reply)

calm : (l : Line) (e : Event) (x : Effect) (o : Out) → o.line ≡ x.line → o.reply ≡ replied x 0 → is_running_tick l e (replied x 0) ≡ false → Quiet l x → Calm l e o
unfolding replied
calm l e x o k r n q =
    record {
      accepted = rw r refl;
      tick = rw r n;
      foreign = rw k q.foreign;
      bench = rw k q.bench;
      detected = rw r q.detected;
      verdict = rw r q.verdict;
      sorters = rw k q.sorters;
      times = rw (k, r) q.times;
    }

sample_calm : (l : Line) (a : Settings) (ts : List ℤ) (s : sample.Sample) → s.emergency ≤ 1 → ticks l s ≡ false → Calm l (Sample s) (recorded (sampled l a s) a.target ts)
unfolding recorded is_running_tick replied
sample_calm l a ts s low n =
    let q = sample_quiet l a s low n in
    rw q.verdict (calm l (Sample s) (sampled l a s) (untallied (sampled l a s) ts) refl refl n q)

pub fit_of : {l : Line} {count : ℕ} {a : Settings} {ts : List ℤ} {e : Event} → Accepted l count a ts e → FitLine l
fit_of {l} {count} {a} {ts} {e} y = fit_tells l (sound_tells l count a ts e y.sound).line

-- a setup is accepted in status 0 alone, where nothing is in hand
pub set_up_empty : (l : Line) (count : ℕ) (a : Settings) (ts : List ℤ) (s : setup.Setup) → Accepted l count a ts (Setup s) → in_hand l.item ≡ false
set_up_empty l count a ts s y =
    let f = (fit_of y).status in
    let stop : l.status ≡ stopped = setup-stopped l.status s (leb-true l.status 3 (status_tells l f).known) y.running y.emergency y.paused in
    (halted_empty l f (rw stop refl)).0

-- to show a thing of what an accepted event gives, show it of these three
pub accepted_ind :
    (P : Event → Out → Type 0) (l : Line) (count : ℕ) (a : Settings) (ts : List ℤ) (e : Event)
    → Accepted l count a ts e
    → ((s : sample.Sample) → InRange s → ticks l s ≡ true → P (Sample s) (recorded (running_tick (step1 l s) (tick_of l a s)) a.target ts))
    → P Run (untallied (ran l) ts)
    → ((o : Out) → Calm l e o → P e o)
    → P e (accepted l a ts e)
unfolding accepted is_running_tick replied alarmed event_ranged
accepted_ind P l count a ts (Sample s) y tick run rest =
    let g = in_range s y.ranged in
    by_cases (ticks l s) (λ t. rw (tick_told l a s t) (tick s g t)) (λ t. rest _ (sample_calm l a ts s g.emergency t))
accepted_ind P l count a ts Run y tick run rest = run
accepted_ind P l count a ts Stop y tick run rest = rest _ (calm l Stop (stopping l) _ refl refl refl (stop_quiet l))
accepted_ind P l count a ts Emergency y tick run rest = rest _ (calm l Emergency (alarmed l) _ refl refl refl (halting_quiet l emergency refl))
accepted_ind P l count a ts (Recall c) y tick run rest = rest _ (calm l (Recall c) _ _ refl refl refl (same_quiet l c None l.error))
accepted_ind P l count a ts Cancel y tick run rest = rest _ (calm l Cancel _ _ refl refl refl (same_quiet l l.code None l.error))
accepted_ind P l count a ts (ClearCode c) y tick run rest = rest _ (calm l (ClearCode c) _ _ refl refl refl (cleared_quiet l c))
accepted_ind P l count a ts ClearAll y tick run rest = rest _ (calm l ClearAll _ _ refl refl refl (same_quiet l l.code None l.error))
accepted_ind P l count a ts ErrorReset y tick run rest = rest _ (calm l ErrorReset _ _ refl refl refl (same_quiet l l.code l.undo no_error))
accepted_ind P l count a ts (Setup s) y tick run rest =
    rest _ (calm l (Setup s) _ _ refl refl refl (set_up_quiet l s (set_up_empty l count a ts s y)))
accepted_ind P l count a ts e y tick run rest = rest _ (calm l e _ _ refl refl refl (same_quiet l l.code l.undo l.error))

-- and to show it of an event on a state, of a refused one too
pub step_told :
    (P : Event → Out → Type 0) (s : State) (e : Event)
    → let l = s.line in
    let a = active_of s in
    ((x : sample.Sample) → FitLine l → InRange x → ticks l x ≡ true → P (Sample x) (recorded (running_tick (step1 l x) (tick_of l a x)) a.target s.tallies))
    → (FitLine l → P Run (untallied (ran l) s.tallies))
    → ((o : Out) → FitLine l → Calm l e o → P e o)
    → ((r : Refusal) → P e (refused l s.tallies r))
    → P e (out_on s e)
step_told P s e tick run rest refuses =
    step_ind (P e) s.line (length s.settings) (active_of s) s.tallies e
    (λ y. let f = fit_of y in
    accepted_ind P s.line (length s.settings) (active_of s) s.tallies e y (λ x g t. tick x f g t) (run f) (λ o c. rest o f c))
    (λ r _. refuses r)

pub accepted-in : (l : Line) (count : ℕ) (a : Settings) (ts : List ℤ) (e : Event) → Accepted l count a ts e → refusal_in (accepted l a ts e).reply ≡ 0
unfolding replied
accepted-in l count a ts e y =
    accepted_ind (λ _ (o : Out). refusal_in o.reply ≡ 0) l count a ts e y
    (λ s _ _. (recorded-shows _ a.target ts).accepted)
    refl
    (λ o c. c.accepted)
