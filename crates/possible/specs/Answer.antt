-- 02, T-12: the call's refusals in their order, and which outcomes samples known within a margin can have.
use Rattle.std.specs.Prelude.{◌≡◌, Bool, true, ◌&&◌, not, List, [], ◌∷◌, ◌↔◌, ℕ, ◌≤◌, leb, ℤ, nat_abs, ◌-ℤ◌, length, Option, None, Some, Result, Ok, Err}
use Rattle.laws.specs.Choice.{within}
use Rattle.lists.specs.Each.{all_of}
use Rattle.weight.specs.Weight.{is_weight}
use Rattle.mask.specs.Bits.{bit_set}
use Rattle.refusal.specs.Table.{value_no, contradiction_no, first_holding}
use Rattle.settings.specs.Settings.{record_ranged, limits_ordered}
use Rattle.settings.specs.declared.Settings.{Settings}
use Rattle.possible.specs.Outcome.{outcome_of}
use Rattle.possible.specs.declared.Refusal.{Refusal}
use Rattle.possible.specs.declared.Refusal.TheVariants.{Samples, Value, Contradiction}

-- "1 to 9,999 samples"
abbrev pub most_samples : ℕ
most_samples = 9999

-- "e from 0 to 1,000"
abbrev pub widest : ℕ
widest = 1000

-- "New numbers: 15 samples, none or more than 9,999, checked before 2."
abbrev pub samples_no : ℕ
samples_no = 15

abbrev pub number_of : Refusal → ℕ
number_of Samples = samples_no
number_of Value = value_no
number_of Contradiction = contradiction_no

-- so many samples are not "none or more than 9,999"
abbrev pub count_fits : ℕ → Bool
count_fits n = within 1 most_samples n

abbrev pub all_weights : List ℤ → Bool
all_weights xs = all_of is_weight xs

-- 15 "checked before 2. Limits out of order get 4, after 2": the first that holds
unfoldable pub refusal_of : List ℤ → ℕ → Settings → Option Refusal
refusal_of xs e s =
    first_holding
    (record { refusal = Samples; holds = not (count_fits (length xs)) }
    ∷ record { refusal = Value; holds = not (all_weights xs && leb e widest && record_ranged s) }
    ∷ record { refusal = Contradiction; holds = not (limits_ordered s) }
    ∷ [])

-- "within e of its own and within -999,999 to 999,999"
pub record Close (e : ℕ) (x y : ℤ) : Type 0 where
  pub near : nat_abs (y -ℤ x) ≤ e
  pub weight : is_weight y ≡ true

-- as many samples, each close to its own
pub data Near (e : ℕ) : List ℤ → List ℤ → Type 0 where
  none : Near e [] []
  more : {x y : ℤ} {xs ys : List ℤ} → Close e x y → Near e xs ys → Near e (x ∷ xs) (y ∷ ys)

-- "some whole samples, each within e of its own and within -999,999 to 999,999, would give it"
pub record CanBe (s : Settings) (e : ℕ) (xs : List ℤ) (k : ℕ) : Type 0 where
  pub samples : List ℤ
  pub near : Near e xs samples
  pub gives : outcome_of s samples ≡ k

-- "the set of possible outcomes 1 to 5 and 9 as a mask, bit k for outcome k"; "An outcome is in the set exactly when" it can be
abbrev pub IsSet : Settings → ℕ → List ℤ → ℕ → Type 0
IsSet s e xs mask = (k : ℕ) → (bit_set mask k ≡ true) ↔ CanBe s e xs k

abbrev pub Answered : List ℤ → ℕ → Settings → Result ℕ Refusal → Type 0
Answered xs e s (Err r) = refusal_of xs e s ≡ Some r
Answered xs e s (Ok mask) = (refusal_of xs e s ≡ None) × IsSet s e xs mask
