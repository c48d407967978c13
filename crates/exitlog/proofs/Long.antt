-- A line over the longest length says nothing. Assumes nothing.
use Prim.Native.Nat.{ℕ, ◌<◌}
use mathlib.Core.Path.{◌≡◌}
use mathlib.Core.List.{List}
use lib.ListN.{length}
use borrow.Author.Tests.{lt-leb}
use Rattle.text.specs.Read.{longest_line}
use Rattle.exitlog.specs.Entry.{read_entry}
use Rattle.std.specs.Prelude.{None}

pub too_long : (s : List ℕ) → longest_line < length s → None ≡ read_entry s
too_long s h = rw (lt-leb (length s) longest_line h)
