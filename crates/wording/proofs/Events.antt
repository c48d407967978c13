-- What lines of text lead to is what running their events does. Assumes nothing.
use mathlib.Core.Path.{◌≡◌, refl}
use mathlib.Core.List.{List, [], ◌∷◌, ◌++◌}
use Prim.Native.Nat.{ℕ}
use Rattle.std.specs.Prelude.{Option, Some, None}
use Rattle.event.specs.declared.Event.{Event}
use Rattle.claim.specs.Run.{World, after, run_from, run, fresh_world}
use Rattle.claim.proofs.Every.{claim}
use Rattle.claim.proofs.Waiting.{no_box_waits}
use Rattle.text.specs.Read.{read_line}
use Rattle.text.specs.declared.Read.{Read}
use Rattle.text.specs.declared.Read.TheVariants as read
use Rattle.controller.specs.Serve.{state_after}
use Rattle.controller.specs.Input.{lines_of, state_behind}
use Rattle.controller.proofs.Lines.{behind-none, behind-one}
use Rattle.wording.specs.Claim.{event_in, events_of, TextClaim}

events-none : events_of [] ≡ []
unfolding events_of
events-none = refl

events-one : (l : List ℕ) (ls : List (List ℕ)) → events_of (l ∷ ls) ≡ event_in (read_line l) ++ events_of ls
unfolding events_of
events-one l ls = refl

ran-none : (w : World) → run_from w [] ≡ w
unfolding run_from
ran-none w = refl

ran-one : (w : World) (e : Event) (es : List Event) → run_from w (e ∷ es) ≡ run_from (after w e) es
unfolding run_from
ran-one w e es = refl

-- what holds of lines of text, whatever world they come to
abbrev Runs : List (List ℕ) → World → Type 0
Runs ls w = state_behind w.state ls ≡ (run_from w (events_of ls)).state

-- a line of text that says r, and the lines behind it
line-runs : (w : World) (ls : List (List ℕ)) (r : Option Read) → ((k : World) → Runs ls k)
    → state_behind (state_after w.state r) ls ≡ (run_from w (event_in r ++ events_of ls)).state
unfolding state_after
line-runs w ls (Some (read.Event e)) rest = rw (ran-one w e (events_of ls)) (rest (after w e))
line-runs w ls (Some (read.Report code)) rest = rest w
line-runs w ls None rest = rest w

runs : (ls : List (List ℕ)) (w : World) → Runs ls w
runs [] w = rw (behind-none w.state, events-none, ran-none w) refl
runs (l ∷ ls) w = rw (behind-one w.state l ls, events-one l ls) (line-runs w ls (read_line l) (runs ls))

pub claim_stands : TextClaim
unfolding run
claim_stands =
    record {
      held = λ input. runs (lines_of input) fresh_world;
      stands = λ input. claim (events_of (lines_of input));
      served = λ input. no_box_waits (events_of (lines_of input));
    }
