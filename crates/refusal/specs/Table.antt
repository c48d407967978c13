-- 01, "Refusal numbers of the manual's kind": the table, "checked in this order, first one wins".
use Rattle.std.specs.Prelude.{ℕ, Bool, List, [], ◌∷◌, Option, Some, None}
use Rattle.laws.specs.Choice.{when◌then◌else◌}
use Rattle.refusal.specs.declared.Faults.{Faults}
use Rattle.refusal.specs.declared.Refusal.{Refusal}
use Rattle.refusal.specs.declared.Refusal.TheVariants.{Memory, Form, Value, Status, Emergency, Paused, Contradiction, Safety, Occupied, Nothing}

-- the column "no."
abbrev pub memory_no : ℕ
memory_no = 8

abbrev pub form_no : ℕ
form_no = 1

abbrev pub value_no : ℕ
value_no = 2

abbrev pub status_no : ℕ
status_no = 3

-- 02, T-07: "New numbers: 9 emergency and 10 paused, both in the place of 3."
abbrev pub emergency_no : ℕ
emergency_no = 9

abbrev pub paused_no : ℕ
paused_no = 10

abbrev pub contradiction_no : ℕ
contradiction_no = 4

abbrev pub safety_no : ℕ
safety_no = 5

abbrev pub occupied_no : ℕ
occupied_no = 6

abbrev pub nothing_no : ℕ
nothing_no = 7

abbrev pub number_of : Refusal → ℕ
number_of Memory = memory_no
number_of Form = form_no
number_of Value = value_no
number_of Status = status_no
number_of Emergency = emergency_no
number_of Paused = paused_no
number_of Contradiction = contradiction_no
number_of Safety = safety_no
number_of Occupied = occupied_no
number_of Nothing = nothing_no

-- the number that a reply has: 0 where nothing refuses
abbrev pub number_in : Option Refusal → ℕ
number_in None = 0
number_in (Some r) = number_of r

-- a line of a table: what refuses, and whether its condition holds
pub record Rule (A : Type 0) : Type 0 where
  pub refusal : A
  pub holds : Bool

-- the table in its order, with 02's two rows behind 3
abbrev pub table : Faults → List (Rule Refusal)
table f =
    record { refusal = Memory; holds = f.memory }
    ∷ record { refusal = Form; holds = f.form }
    ∷ record { refusal = Value; holds = f.value }
    ∷ record { refusal = Status; holds = f.running }
    ∷ record { refusal = Emergency; holds = f.emergency }
    ∷ record { refusal = Paused; holds = f.paused }
    ∷ record { refusal = Contradiction; holds = f.contradiction }
    ∷ record { refusal = Safety; holds = f.safety }
    ∷ record { refusal = Occupied; holds = f.occupied }
    ∷ record { refusal = Nothing; holds = f.nothing }
    ∷ []

-- the first rule that holds refuses
abbrev pub first_holding : {A : Type 0} → List (Rule A) → Option A
first_holding [] = None
first_holding (r ∷ rs) = when r.holds then Some r.refusal else first_holding rs
