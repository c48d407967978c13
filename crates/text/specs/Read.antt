-- 01, "Text lines": what a line says.
use Rattle.std.specs.Prelude.{ℕ, ◌+◌, List, [], ◌∷◌, ◌++◌, map, length, get_or, leb, ℤ, pos, Option, Some, None}
use Prim.Native.String.{String}
use Rattle.laws.specs.Choice.{when◌then◌else◌}
use Rattle.settings.specs.declared.Settings.{Settings}
use Rattle.event.specs.declared.Setup.{Setup}
use Rattle.event.specs.declared.SorterSetup.{SorterSetup}
use Rattle.event.specs.declared.Sample.{Sample}
use Rattle.event.specs.declared.Stored.{Stored}
use Rattle.event.specs.declared.Event.{Event}
use Rattle.event.specs.declared.Event.TheVariants as event
use Rattle.numeral.specs.Number.{hold, unsigned_of}
use Rattle.text.specs.declared.Read.{Read}
use Rattle.text.specs.declared.Read.TheVariants as read
use Rattle.text.specs.Form.{Item, four, word_items, fields_form, Values, other, values, line_values}

-- the numbers of a line, held within the limit
abbrev pub held : Values → Values
held other = other
held (values vs) = values (map hold vs)

-- value i of a line, for a field with a sign and for one without
abbrev pub at : List ℤ → ℕ → ℤ
at vs i = get_or vs i (pos 0)

abbrev pub size_at : List ℤ → ℕ → ℕ
size_at vs i = unsigned_of (at vs i)

-- the fields of the example lines, "order as below"
abbrev pub sample_of : List ℤ → Sample
sample_of v = record { gross = at v 4; sensor = size_at v 0; emergency = size_at v 1; safety = size_at v 2; foreign = size_at v 3 }

abbrev pub sorter_at : List ℤ → ℕ → SorterSetup
sorter_at v i = record { ts = size_at v i; to = size_at v (i + 1); sort = size_at v (i + 2) }

abbrev pub setup_of : List ℤ → Setup
setup_of v = record {
  mode = size_at v 0;
  edge = size_at v 1;
  tc = size_at v 2;
  tw = size_at v 3;
  ta = size_at v 4;
  tf = size_at v 5;
  sorters = sorter_at v 6 ∷ sorter_at v 9 ∷ sorter_at v 12 ∷ sorter_at v 15 ∷ sorter_at v 18 ∷ sorter_at v 21 ∷ [];
  stop = size_at v 24;
  need = size_at v 25;
}

abbrev pub settings_of : List ℤ → Settings
settings_of v = record { target = at v 1; lolo = at v 2; lo = at v 3; hi = at v 4; hihi = at v 5; nearzero = at v 6; tare = at v 7 }

abbrev pub stored_of : List ℤ → Stored
stored_of v = record { code = size_at v 0; settings = settings_of v }

-- a form, and what the values of a line of that form say
pub record Kind : Type 0 where
  pub form : List Item
  pub means : List ℤ → Read

abbrev pub sample : Kind
sample = record {
  form = fields_form ("sensor" ∷ "emergency" ∷ "safety" ∷ "foreign" ∷ "gross" ∷ []);
  means = λ v. read.Event (event.Sample (sample_of v));
}

-- 02, T-01: "The setup line ends its ts, to and sort fields with 1 to 6: ts1 to1 sort1 up to ts6 to6 sort6, then stop and need."
abbrev pub setup : Kind
setup = record {
  form = fields_form
      ("mode" ∷ "edge" ∷ "tc" ∷ "tw" ∷ "ta" ∷ "tf"
      ∷ "ts1" ∷ "to1" ∷ "sort1" ∷ "ts2" ∷ "to2" ∷ "sort2" ∷ "ts3" ∷ "to3" ∷ "sort3"
      ∷ "ts4" ∷ "to4" ∷ "sort4" ∷ "ts5" ∷ "to5" ∷ "sort5" ∷ "ts6" ∷ "to6" ∷ "sort6"
      ∷ "stop" ∷ "need" ∷ []);
  means = λ v. read.Event (event.Setup (setup_of v));
}

abbrev pub store : Kind
store = record {
  form = fields_form ("code" ∷ "target" ∷ "lolo" ∷ "lo" ∷ "hi" ∷ "hihi" ∷ "nearzero" ∷ "tare" ∷ []);
  means = λ v. read.Event (event.Store (stored_of v));
}

abbrev pub report : Kind
report = record { form = fields_form ("report" ∷ []); means = λ v. read.Report (size_at v 0) }

abbrev pub command : String → Event → Kind
command word e = record { form = word_items word; means = λ v. read.Event e }

-- "with four digits"
abbrev pub coded : String → (ℕ → Event) → Kind
coded word e = record { form = word_items word ++ four ∷ []; means = λ v. read.Event (e (size_at v 0)) }

-- "CCOD and CDTL with four digits (recall, clear code)"
abbrev pub coded_commands : List Kind
coded_commands = coded "CCOD" event.Recall ∷ coded "CDTL" event.ClearCode ∷ []

-- "COPR run, CSTD stop, CSTP emergency, CCAC cancel, CETL clear all, CRER reset, CNOP"
abbrev pub commands : List Kind
commands =
    command "COPR" event.Run
    ∷ command "CSTD" event.Stop
    ∷ command "CSTP" event.Emergency
    ∷ command "CCAC" event.Cancel
    ∷ command "CETL" event.ClearAll
    ∷ command "CRER" event.ErrorReset
    ∷ command "CNOP" event.NoOperation
    ∷ coded_commands

abbrev pub kinds : List Kind
kinds = sample ∷ setup ∷ store ∷ report ∷ commands

-- what the values say, where there are some
abbrev pub says : Values → (List ℤ → Read) → Option Read → Option Read
says other means next = next
says (values vs) means next = Some (means vs)

-- what a line says by the first kind whose form it has; "a line that reads as no event and no report" says nothing
abbrev pub first_of : List Kind → List ℕ → Option Read
first_of [] s = None
first_of (k ∷ more) s = says (held (line_values k.form s)) k.means (first_of more s)

-- "over 120 bytes" is no line; by T-01 "Lines may be 300 bytes"
abbrev pub longest_line : ℕ
longest_line = 300

abbrev pub read_line : List ℕ → Option Read
read_line s = when leb (length s) longest_line then first_of kinds s else None
