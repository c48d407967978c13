-- 01, "Line and memory" and "Store": a code's settings record, and when it is fit.
use Rattle.std.specs.Prelude.{ℕ, Bool, ◌&&◌, ℤ, pos, leb, eqb}
use Rattle.std.specs.Int.Signed.{le_z}
use Rattle.weight.specs.Weight.{is_weight}
use Rattle.settings.specs.declared.Settings.{Settings}

-- 0 to 999,999
abbrev pub is_load : ℤ → Bool
is_load z = le_z (pos 0) z && is_weight z

-- "target, lolo, lo, hi, hihi (each a weight), nearzero and tare (0 to 999,999)"
unfoldable pub record_ranged : Settings → Bool
record_ranged s =
    is_weight s.target && is_weight s.lolo && is_weight s.lo && is_weight s.hi && is_weight s.hihi
    && is_load s.nearzero && is_load s.tare

-- "lolo ≤ lo ≤ target ≤ hi ≤ hihi"
unfoldable pub limits_ordered : Settings → Bool
limits_ordered s =
    le_z s.lolo s.lo && le_z s.lo s.target && le_z s.target s.hi && le_z s.hi s.hihi

-- "A record is fit as store takes it"
abbrev pub record_fit : Settings → Bool
record_fit s = record_ranged s && limits_ordered s

-- "Codes are 0 to 99."
abbrev pub last_code : ℕ
last_code = 99

abbrev pub is_code : ℕ → Bool
is_code c = leb c last_code

-- "The hundred settings records", one for each code
abbrev pub settings_length : ℕ
settings_length = 100

-- so many records are there
abbrev pub all_there : ℕ → Bool
all_there count = eqb count settings_length

-- a record of fresh memory: all zeros
abbrev pub blank : Settings
blank =
    record { target = pos 0; lolo = pos 0; lo = pos 0; hi = pos 0; hihi = pos 0; nearzero = pos 0; tare = pos 0 }
