-- What is left of the input in a buffer, and what a read puts behind it. Of a line of text that has begun the longest line and one byte more are kept: a longer one is refused whatever it holds.
use Rattle.std.specs.Prelude.{ℕ, zero, suc, ◌+◌, ◌≤◌, ◌<◌, ◌≡◌, min, Bool, true, false, List, [], ◌∷◌, ◌++◌, length, take, drop, Option, None, Some, Result, Ok, Err}
use Rattle.laws.specs.Choice.{when◌then◌else◌}
use Rattle.decimal.specs.Bytes.{lf}
use Rattle.text.specs.Read.{longest_line}
use Rattle.blocks.specs.declared.left.Left.{Left}
use Rattle.blocks.specs.declared.left.Standing.{Standing}
use Rattle.blocks.specs.declared.left.Standing.TheVariants.{More, End, Failed}

-- how much is kept of a line that is too long
abbrev pub kept_bytes : ℕ
kept_bytes = longest_line + 1

-- what `read` answers: how many bytes it read, 0 at the end of the input; none where it failed
abbrev pub answer : {E : Type 0} → Result ℕ E → Option ℕ
answer (Ok n) = Some n
answer (Err e) = None

abbrev pub standing : Option ℕ → Standing
standing (Some zero) = End
standing (Some (suc k)) = More
standing None = Failed

abbrev pub count_of : Option ℕ → ℕ
count_of (Some k) = k
count_of None = 0

abbrev pub none_left : Left
none_left = record { start = 0; end = 0; over = More }

-- no more will come
abbrev pub is_over : Standing → Bool
is_over More = false
is_over End = true
is_over Failed = true

abbrev pub last_of : Left → Bool
last_of l = is_over l.over

-- a read has come to the end of the input
abbrev pub EndSeen : Left → Type 0
EndSeen l = l.over ≡ End

-- the bytes that are left
abbrev pub bytes_left : Left → List ℕ → List ℕ
bytes_left l input = drop l.start (take l.end input)

-- without the first n of them
abbrev pub past_of : Left → ℕ → Left
past_of l n = record { start = min (l.start + n) l.end; end = l.end; over = l.over }

-- the bytes that are held stay, and `read` puts as many behind them as it answers
pub record ReadBehind (before : List ℕ) (held : ℕ) (l : Left) (after : List ℕ) : Type 0 where
  pub got : Option ℕ
  pub stands : l.over ≡ standing got
  pub first : l.start ≡ 0
  pub counted : l.end ≡ held + count_of got
  pub within : l.end ≤ length after
  pub held_stay : take held after ≡ take held before

-- "or the end (nothing behind the last LF is no line)": what ends a line that has begun, at the end of the input
abbrev pub at_end : List ℕ → List ℕ
at_end [] = []
at_end (b ∷ text) = lf ∷ []

-- behind the bytes that are held: those that were read, as many as `read` answers; none at the end of the input, where the line is ended
pub record Filled (held : List ℕ) (l : Left) (input : List ℕ) : Type 0 where
  pub got : Option ℕ
  pub new : List ℕ
  pub stands : l.over ≡ standing got
  pub counted : length new ≡ count_of got
  pub order : l.start ≤ l.end
  pub within : l.end ≤ length input
  pub bytes : bytes_left l input ≡ held ++ (when last_of l then at_end held else new)

-- what a refill makes of the bytes left in a buffer
pub record Refilled (l : Left) (before : List ℕ) (r : Left) (after : List ℕ) : Type 0 where
  pub same_length : length after ≡ length before
  pub filled : kept_bytes < length before → Filled (take kept_bytes (bytes_left l before)) r after
  pub small : length before ≤ kept_bytes → (r ≡ l) × (after ≡ before)
