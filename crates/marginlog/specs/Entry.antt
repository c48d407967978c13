-- What a line of the program `margin` says: `e=` begins a call, a store line of 01 gives the settings, `gross=` a sample. Fields stand as in 01, "Text lines".
use Rattle.std.specs.Prelude.{ℕ, List, [], ◌∷◌, leb, ℤ, length, Option, None, Some}
use Rattle.std.specs.Option.{option_or}
use Rattle.laws.specs.Choice.{when◌then◌else◌}
use Rattle.numeral.specs.Number.{unsigned_of}
use Rattle.event.specs.declared.Event.{Event}
use Rattle.event.specs.declared.Event.TheVariants as event
use Rattle.text.specs.Form.{Item, fields_form, line_values}
use Rattle.text.specs.Read.{longest_line, read_line}
use Rattle.text.specs.declared.Read.{Read}
use Rattle.text.specs.declared.Read.TheVariants as read
use Rattle.field.specs.Field.{sole_value}
use Rattle.marginlog.specs.declared.entry.Entry.{Entry}
use Rattle.marginlog.specs.declared.entry.Entry.TheVariants.{Begin, Store, Gross}

abbrev pub margin_form : List Item
margin_form = fields_form ("e" ∷ [])

abbrev pub gross_form : List Item
gross_form = fields_form ("gross" ∷ [])

-- of 01's events only a store has its place here
abbrev pub store_in : Event → Option Entry
store_in (event.Sample s) = None
store_in event.Run = None
store_in event.Stop = None
store_in event.Emergency = None
store_in (event.Recall code) = None
store_in event.Cancel = None
store_in (event.ClearCode code) = None
store_in event.ClearAll = None
store_in event.ErrorReset = None
store_in event.NoOperation = None
store_in (event.Setup s) = None
store_in (event.Store s) = Some (Store s)

abbrev pub store_entry : Option Read → Option Entry
store_entry (Some (read.Event e)) = store_in e
store_entry (Some (read.Report code)) = None
store_entry None = None

abbrev pub margin_entry : Option ℤ → Option Entry
margin_entry None = None
margin_entry (Some e) = Some (Begin (unsigned_of e))

abbrev pub gross_entry : Option ℤ → Option Entry
gross_entry None = None
gross_entry (Some x) = Some (Gross x)

-- what a line of no more than the longest length says
abbrev pub short_entry : List ℕ → Option Entry
short_entry s = option_or (gross_entry (sole_value (line_values gross_form s))) (option_or (margin_entry (sole_value (line_values margin_form s))) (store_entry (read_line s)))

-- a line that is too long, or of another form, says nothing
abbrev pub read_entry : List ℕ → Option Entry
read_entry s = when leb (length s) longest_line then short_entry s else None
