-- 01: what each of the twelve kinds of event does when accepted, and an event as a whole.
use Rattle.std.specs.Prelude.{ℕ, List, ℤ, length, Option, Some, None, Err}
use Rattle.settings.specs.declared.Settings.{Settings}
use Rattle.event.specs.Reply.{Reply, no_error}
use Rattle.event.specs.declared.Event.{Event}
use Rattle.event.specs.declared.Stored.{Stored}
use Rattle.event.specs.declared.Event.TheVariants.{Sample, Run, Stop, Emergency, Recall, Cancel, ClearCode, ClearAll, ErrorReset, NoOperation, Setup, Store}
use Rattle.refusal.specs.Table.{number_of}
use Rattle.refusal.specs.declared.Refusal.{Refusal}
use Rattle.line.specs.Line.{with_status, with_setup}
use Rattle.line.specs.State.{State, active_of}
use Rattle.line.specs.Effect.{plain, replied}
use Rattle.line.specs.Sample.{sampled}
use Rattle.line.specs.Command.{ran, stopping, alarmed}
use Rattle.line.specs.Storing.{stored}
use Rattle.line.specs.Tallying.{Out, untallied, recorded, cancelled, recalled, cleared_one, cleared_all}
use Rattle.line.specs.Refusal.{refusal_of, input_of}
use Rattle.line.specs.declared.line.Line.{Line}

-- "replaces one code's settings"
abbrev pub storing : Line → List ℤ → Stored → Out
storing l ts s = record { line = l; storing = Some s; tallies = ts; reply = replied (plain l) 0 }

-- an accepted event; a is the active code's record
unfoldable pub accepted : Line → Settings → List ℤ → Event → Out
accepted l a ts (Sample s) = recorded (sampled l a s) a.target ts
accepted l a ts Run = untallied (ran l) ts
accepted l a ts Stop = untallied (stopping l) ts
accepted l a ts Emergency = untallied (alarmed l) ts
accepted l a ts (Recall c) = untallied (plain (recalled l c)) ts
accepted l a ts Cancel = cancelled l ts
accepted l a ts (ClearCode c) = cleared_one l ts c
accepted l a ts ClearAll = cleared_all l ts
accepted l a ts ErrorReset = untallied (plain (with_status l l.status no_error)) ts
accepted l a ts NoOperation = untallied (plain l) ts
accepted l a ts (Setup s) = untallied (plain (with_setup l s)) ts
accepted l a ts (Store s) = storing l ts s

-- "The reply has the number and input .. Nothing else alters."
abbrev pub refused : Line → List ℤ → Refusal → Out
refused l ts r =
    record { line = l; storing = None; tallies = ts; reply = Err (record { number = number_of r; input = input_of l r }) }

abbrev pub unless_refused : Option Refusal → Line → Settings → List ℤ → Event → Out
unless_refused None l a ts e = accepted l a ts e
unless_refused (Some r) l a ts e = refused l ts r

-- an event on a line and its tallies, where count records are lent and a is the active one
unfoldable pub step_of : Line → ℕ → Settings → List ℤ → Event → Out
step_of l count a ts e = unless_refused (refusal_of l count a ts e) l a ts e

-- what an event gives: the state after it and its reply
pub record After : Type 0 where
  pub state : State
  pub reply : Reply

abbrev pub out_on : State → Event → Out
out_on s e = step_of s.line (length s.settings) (active_of s) s.tallies e

-- an event on a state
abbrev pub step_on : State → Event → After
step_on s e =
    let o = out_on s e in
    record {
      state = record { line = o.line; settings = stored s.settings o.storing; tallies = o.tallies };
      reply = o.reply;
    }
