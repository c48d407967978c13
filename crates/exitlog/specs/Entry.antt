-- What a line of the program `exits` says: `a= b=` begins a call, `verdict=` and `signal=` give a tick. Fields stand as in 01, "Text lines".
use Rattle.std.specs.Prelude.{ℕ, ◌-◌, ◌^◌, List, [], ◌∷◌, leb, ℤ, pos, negsuc, length, Option, None, Some}
use Rattle.std.specs.Option.{option_or}
use Rattle.laws.specs.Choice.{when◌then◌else◌}
use Rattle.numeral.specs.Number.{hold, unsigned_of}
use Rattle.text.specs.Form.{Item, fields_form, Values, other, values, line_values}
use Rattle.text.specs.Read.{at, longest_line}
use Rattle.exitlog.specs.declared.entry.Entry.{Entry}
use Rattle.exitlog.specs.declared.entry.Entry.TheVariants.{Begin, Verdict, Signal, TooWide}

abbrev pub window_form : List Item
window_form = fields_form ("a" ∷ "b" ∷ [])

abbrev pub verdict_form : List Item
verdict_form = fields_form ("verdict" ∷ [])

abbrev pub signal_form : List Item
signal_form = fields_form ("signal" ∷ [])

-- the largest number of 64 bits
abbrev pub largest : ℕ
largest = 2 ^ 64 - 1

-- a number as a tick, where 64 bits hold it
abbrev pub tick_of : ℤ → Option ℕ
tick_of (pos n) = when leb n largest then Some n else None
tick_of (negsuc n) = None

-- the tick of a line of one field
abbrev pub tick_in : Values → Option ℕ
tick_in other = None
tick_in (values vs) = tick_of (at vs 0)

-- what such a line says, a verdict's tick or a signal's
abbrev pub tick_or_wide : (ℕ → Entry) → Option ℕ → Entry
tick_or_wide says None = TooWide
tick_or_wide says (Some t) = says t

abbrev pub tick_entry : (ℕ → Entry) → Values → Option Entry
tick_entry says other = None
tick_entry says (values vs) = Some (tick_or_wide says (tick_in (values vs)))

-- a bound of the window; one that is negative or too large is held at a number that is in no window
abbrev pub bound_of : ℤ → ℕ
bound_of v = unsigned_of (hold v)

abbrev pub window_entry : Values → Option Entry
window_entry other = None
window_entry (values vs) = Some (Begin (bound_of (at vs 0)) (bound_of (at vs 1)))

-- what a line of no more than the longest length says
abbrev pub short_entry : List ℕ → Option Entry
short_entry s = option_or (tick_entry Verdict (line_values verdict_form s)) (option_or (tick_entry Signal (line_values signal_form s)) (window_entry (line_values window_form s)))

-- a line that is too long, or of another form, says nothing
abbrev pub read_entry : List ℕ → Option Entry
read_entry s = when leb (length s) longest_line then short_entry s else None
