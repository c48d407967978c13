-- A list of events is run one event at a time. Assumes nothing.
use mathlib.Core.Path.{◌≡◌, refl, ap}
use mathlib.Core.List.{List, [], ◌∷◌, ◌++◌}
use Prim.Native.Nat.{ℕ, ◌+◌, ◌<◌}
use native.Mathlib.Numerals.{add-one}
use lib.IntN.{ℤ}
use lib.ListN.{length, take, get_or}
use lib.Seq.{take-suc}
use Rattle.event.specs.declared.Event.{Event}
use Rattle.line.specs.Step.{step_on}
use Rattle.line.specs.State.{State}
use Rattle.claim.specs.Run.{World, fresh_world, after, run_from, run}
use Rattle.replay.specs.Replay.{state_of, turned_by, Follows}
use Rattle.replay.specs.declared.Plant.{Plant}
use Rattle.replay.specs.declared.Turned.{Turned}

pub run_more : (w : World) (es : List Event) (e : Event) → run_from w (es ++ e ∷ []) ≡ after (run_from w es) e
unfolding run_from
run_more w [] e = refl
run_more w (x ∷ es) e = run_more (after w x) es e

-- the state after one event more of a list
followed : (s : State) (e : Event) → Follows s e (turned_by s e) (step_on s e).state.tallies
unfolding run
followed s e events h = rw (run_more fresh_world events e, h) (refl, refl)

pub follows : (s : State) (e : Event) (r : Turned) (ts : List ℤ) → r ≡ turned_by s e → ts ≡ (step_on s e).state.tallies → Follows s e r ts
follows s e r ts p q = rw (p, q) (followed s e)

-- events run on a plant and its tallies
abbrev pub ran : State → List Event → World
ran s es = run_from (record { state = s; history = [] }) es

module _ (s₀ : State) (es : List Event) (i : ℕ) (d : Event) where
  one_more_lem : i < length es → ran s₀ (take (i + 1) es) ≡ after (ran s₀ (take i es)) (get_or es i d)
  one_more_lem h = rw (add-one, take-suc es i d h) (run_more (record { state = s₀; history = [] }) (take i es) (get_or es i d))

  -- a plant and tallies after the first i events, with a turn more
  pub turned_after : (p : Plant) (ts : List ℤ) → state_of p ts ≡ (ran s₀ (take i es)).state → i < length es → (r : Turned) (out : List ℤ)
      → r ≡ turned_by (state_of p ts) (get_or es i d) → out ≡ (step_on (state_of p ts) (get_or es i d)).state.tallies
      → state_of r.plant out ≡ (ran s₀ (take (i + 1) es)).state
  turned_after p ts a h r out q o = rw (one_more_lem h, q, o) (ap (λ (x : State). (step_on x (get_or es i d)).state) a)
