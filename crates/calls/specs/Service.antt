-- A program that answers calls: what a line says to it, what it keeps from line to line, and what it prints.
use Rattle.std.specs.Prelude.{ℕ, ◌≡◌, Bool, List, Option, None, Some}
use Rattle.laws.specs.Choice.{when◌then◌else◌}
use Rattle.refusal.specs.Table.{form_no}
use Rattle.print.specs.Reply.{refused_text}

pub record Service : Type 1 where
  -- what a line says, if anything, and what is kept
  pub Entry : Type 0
  pub State : Type 0
  pub reads : List ℕ → Option Entry
  -- what is kept before the first line
  pub start : State
  -- whether what a line says has its place there; what it leaves then, and what it may print
  pub has_place : State → Entry → Bool
  pub after : State → Entry → State
  pub Says : State → Entry → List ℕ → Type 0
  -- what the end of the input may print
  pub Closes : State → List ℕ → Type 0

-- ---- a line: one that says nothing, or what has no place, leaves all as it is, and is refused 1

abbrev pub placed : (p : Service) → p.State → Option p.Entry → Option p.Entry
placed p s None = None
placed p s (Some e) = when p.has_place s e then Some e else None

abbrev pub left_by : (p : Service) → p.State → Option p.Entry → p.State
left_by p s None = s
left_by p s (Some e) = p.after s e

abbrev pub PrintedBy : (p : Service) → p.State → Option p.Entry → List ℕ → Type 0
PrintedBy p s None text = text ≡ refused_text form_no 0
PrintedBy p s (Some e) text = p.Says s e text

abbrev pub after_line : (p : Service) → p.State → Option p.Entry → p.State
after_line p s said = left_by p s (placed p s said)

abbrev pub SaysLine : (p : Service) → p.State → Option p.Entry → List ℕ → Type 0
SaysLine p s said text = PrintedBy p s (placed p s said) text
