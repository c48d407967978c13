-- The calls of an input, line by line: what is kept of the call that is being read, and what a line prints.
use Rattle.std.specs.Prelude.{ℕ, ◌+◌, ◌*◌, ◌≤◌, ◌≡◌, Bool, true, false, List, [], length, take, Option, None, Some}
use Rattle.refusal.specs.Table.{value_no}
use Rattle.print.specs.Reply.{refused_text}
use Rattle.calls.specs.Service.{Service}
use Rattle.calls.specs.Kept.{noted}
use Rattle.exitlog.specs.Entry.{read_entry}
use Rattle.exitlog.specs.Lines.{Prints}
use Rattle.exitlog.specs.declared.entry.Entry.{Entry}
use Rattle.exitlog.specs.declared.entry.Entry.TheVariants.{Begin, Verdict, Signal, TooWide}
use Rattle.exits.specs.Memory.{places}
use Rattle.exits.specs.declared.memory.Call.{Call}
use Rattle.exits.specs.declared.memory.Session.{Session}

-- the call that is being read; wide once a tick came that 64 bits do not hold
pub record Reading : Type 0 where
  pub wide : Bool
  pub a : ℕ
  pub b : ℕ
  pub verdicts : List ℕ
  pub signals : List ℕ

-- there is one once a call has begun
abbrev pub State : Type 0
State = Option Reading

-- before a call has begun only the line that begins one has its place
abbrev pub has_place : State → Entry → Bool
has_place None (Begin a b) = true
has_place None (Verdict t) = false
has_place None (Signal t) = false
has_place None TooWide = false
has_place (Some c) e = true

abbrev pub new_reading : ℕ → ℕ → Reading
new_reading a b = record { wide = false; a = a; b = b; verdicts = []; signals = [] }

-- the call behind a line
abbrev pub told : Reading → Entry → Reading
told c (Begin a b) = new_reading a b
told c (Verdict t) = record { wide = c.wide; a = c.a; b = c.b; verdicts = noted places c.verdicts t; signals = c.signals }
told c (Signal t) = record { wide = c.wide; a = c.a; b = c.b; verdicts = c.verdicts; signals = noted places c.signals t }
told c TooWide = record { wide = true; a = c.a; b = c.b; verdicts = c.verdicts; signals = c.signals }

abbrev pub after : State → Entry → State
after None (Begin a b) = Some (new_reading a b)
after None (Verdict t) = None
after None (Signal t) = None
after None TooWide = None
after (Some c) e = Some (told c e)

-- what is printed where a call ends: nothing if none has begun; a tick that 64 bits do not hold is refused 2, whatever else holds; the buffer of the call has room for two numbers for each verdict
abbrev pub ClosesBy : Bool → Reading → List ℕ → Type 0
ClosesBy true c text = text ≡ refused_text value_no 0
ClosesBy false c text = Prints c.verdicts c.signals c.a c.b (2 * places) text

abbrev pub Closes : State → List ℕ → Type 0
Closes None text = text ≡ []
Closes (Some c) text = ClosesBy c.wide c text

-- what a line prints: the one that begins a call ends the call before it
abbrev pub Says : State → Entry → List ℕ → Type 0
Says s (Begin a b) text = Closes s text
Says s (Verdict t) text = text ≡ []
Says s (Signal t) text = text ≡ []
Says s TooWide text = text ≡ []

-- the program, for what it prints over a whole input
abbrev pub exit_calls : Service
exit_calls =
    record {
      Entry = Entry;
      State = State;
      reads = read_entry;
      start = None;
      has_place = has_place;
      after = after;
      Says = Says;
      Closes = Closes;
    }

-- ---- the call in the program's memories

abbrev pub reading_of : Call → List ℕ → List ℕ → Reading
reading_of c vs ts = record { wide = c.wide; a = c.a; b = c.b; verdicts = take c.verdicts vs; signals = take c.signals ts }

abbrev pub reading_in : Option Call → List ℕ → List ℕ → State
reading_in None vs ts = None
reading_in (Some c) vs ts = Some (reading_of c vs ts)

abbrev pub state_of : Session → State
state_of s = reading_in s.call s.verdicts s.signals
