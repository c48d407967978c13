-- 01: how verdicts, cancel and the clears change the tallies and the chance to cancel.
use Rattle.std.specs.Prelude.{ℕ, List, eqb, ℤ, length, Option, None, is_some}
use Rattle.std.specs.Int.{from_bool}
use Rattle.laws.specs.Choice.{when◌then◌else◌}
use Rattle.verdict.specs.Verdict.{is_verdict}
use Rattle.part.specs.Part.{empty_part}
use Rattle.tallies.specs.Memory.{written, zeros}
use Rattle.event.specs.Reply.{Reply}
use Rattle.event.specs.declared.Stored.{Stored}
use Rattle.undo.specs.Undo.{kept_of, noted_in, put_back}
use Rattle.line.specs.Line.{with_code, with_undo}
use Rattle.line.specs.Effect.{Effect, plain, replied}
use Rattle.line.specs.declared.line.Line.{Line}
use Rattle.line.specs.declared.step.Step.{Step}

-- what an event hands back: the next line, what it stores, the tallies and the reply
pub record Out : Type 0 where
  pub line : Line
  pub storing : Option Stored
  pub tallies : List ℤ
  pub reply : Reply

-- all but the tallies, which are lent
abbrev pub step_in : Out → Step
step_in o = record { line = o.line; reply = o.reply; storing = o.storing }

-- an effect that stores and tallies nothing
abbrev pub untallied : Effect → List ℤ → Out
untallied e ts = record { line = e.line; storing = None; tallies = ts; reply = replied e 0 }

-- a verdict is tallied under the active code, with the target of its settings, and what stood there before it is kept; where it is given but not tallied, there is nothing to cancel
unfoldable pub noted : Effect → ℤ → List ℤ → Out
noted e target ts =
    let u = kept_of ts e.line.code e.outcome e.net target in
    record {
      line = with_undo e.line u;
      storing = None;
      tallies = noted_in ts e.line.code e.outcome e.net target;
      reply = replied e (from_bool (is_some u));
    }

-- "Active code and settings are those at the verdict."
unfoldable pub recorded : Effect → ℤ → List ℤ → Out
recorded e target ts = when is_verdict e.outcome then noted e target ts else untallied e ts

-- "Cancel puts back the active code's tally as before the last verdict."
abbrev pub cancelled : Line → List ℤ → Out
cancelled l ts = untallied (plain (with_undo l None)) (put_back ts l.code l.undo)

-- "Recall makes a code active, any status, and ends the chance to cancel, even for the same code."
abbrev pub recalled : Line → ℕ → Line
recalled l c = with_code (with_undo l None) c

-- "Clear zeroes tallies": of one code, and "clear of that code .. since" the verdict ends the chance
unfoldable pub code_cleared : Line → ℕ → Line
code_cleared l c = when eqb c l.code then with_undo l None else l

abbrev pub cleared_one : Line → List ℤ → ℕ → Out
cleared_one l ts c = untallied (plain (code_cleared l c)) (written ts c empty_part)

abbrev pub cleared_all : Line → List ℤ → Out
cleared_all l ts = untallied (plain (with_undo l None)) (zeros (length ts))
