-- The calls of an input, line by line: what is kept of the call that is being read, and what a line prints.
use Rattle.std.specs.Prelude.{ℕ, ◌+◌, ◌≤◌, ◌≡◌, Bool, true, false, List, [], ℤ, length, take, Option, None, Some}
use Rattle.std.specs.Option.{is_some, is_none}
use Rattle.event.specs.declared.Stored.{Stored}
use Rattle.print.specs.Reply.{refused_text}
use Rattle.calls.specs.Service.{Service}
use Rattle.calls.specs.Kept.{noted}
use Rattle.possible.specs.Answer.{number_of}
use Rattle.possible.specs.declared.Refusal.TheVariants.{Samples}
use Rattle.marginlog.specs.Entry.{read_entry}
use Rattle.marginlog.specs.Lines.{Prints}
use Rattle.marginlog.specs.declared.entry.Entry.{Entry}
use Rattle.marginlog.specs.declared.entry.Entry.TheVariants.{Begin, Store, Gross}
use Rattle.margin.specs.Memory.{places}
use Rattle.margin.specs.declared.memory.Call.{Call}
use Rattle.margin.specs.declared.memory.Session.{Session}

-- the call that is being read, and its code and settings once they came
pub record Reading : Type 0 where
  pub e : ℕ
  pub stored : Option Stored
  pub samples : List ℤ

-- there is one once a call has begun
abbrev pub State : Type 0
State = Option Reading

-- the settings have their place once, behind the line that begins a call, and the samples behind the settings
abbrev pub has_place : State → Entry → Bool
has_place None (Begin e) = true
has_place None (Store t) = false
has_place None (Gross x) = false
has_place (Some c) (Begin e) = true
has_place (Some c) (Store t) = is_none c.stored
has_place (Some c) (Gross x) = is_some c.stored

abbrev pub new_reading : ℕ → Reading
new_reading e = record { e = e; stored = None; samples = [] }

-- the call behind a line
abbrev pub told : Reading → Entry → Reading
told c (Begin e) = new_reading e
told c (Store t) = record { e = c.e; stored = Some t; samples = c.samples }
told c (Gross x) = record { e = c.e; stored = c.stored; samples = noted places c.samples x }

abbrev pub after : State → Entry → State
after None (Begin e) = Some (new_reading e)
after None (Store t) = None
after None (Gross x) = None
after (Some c) e = Some (told c e)

-- what is printed where a call ends: nothing if none has begun. A call without settings has no samples either, and is refused 15
abbrev pub ClosesBy : Option Stored → Reading → List ℕ → Type 0
ClosesBy None c text = text ≡ refused_text (number_of Samples) 0
ClosesBy (Some t) c text = Prints c.samples c.e t.code t.settings text

abbrev pub Closes : State → List ℕ → Type 0
Closes None text = text ≡ []
Closes (Some c) text = ClosesBy c.stored c text

-- what a line prints: the one that begins a call ends the call before it
abbrev pub Says : State → Entry → List ℕ → Type 0
Says s (Begin e) text = Closes s text
Says s (Store t) text = text ≡ []
Says s (Gross x) text = text ≡ []

-- the program, for what it prints over a whole input
abbrev pub margin_calls : Service
margin_calls =
    record {
      Entry = Entry;
      State = State;
      reads = read_entry;
      start = None;
      has_place = has_place;
      after = after;
      Says = Says;
      Closes = Closes;
    }

-- ---- the call in the program's memory

abbrev pub reading_of : Call → List ℤ → Reading
reading_of c xs = record { e = c.e; stored = c.stored; samples = take c.count xs }

abbrev pub reading_in : Option Call → List ℤ → State
reading_in None xs = None
reading_in (Some c) xs = Some (reading_of c xs)

abbrev pub state_of : Session → State
state_of s = reading_in s.call s.samples
