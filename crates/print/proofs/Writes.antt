-- Texts that are written one behind the other. Assumes nothing.
use mathlib.Core.Path.{◌≡◌, refl, subst, ◌∙◌}
use mathlib.Core.List.{List, [], ◌++◌}
use Prim.Native.Nat.{ℕ, ◌+◌, ◌≤◌}
use lib.ListN.{length}
use Rattle.print.specs.declared.lines.Lines.{Lines}
use Rattle.print.specs.Steps.{Writes}
use Rattle.print.proofs.Put.{wrote_none, wrote_then, wrote-within, wrote_in}

-- nothing yet
pub writes_none : (x : Lines) → x.at ≤ length x.out.now → Writes x [] 0 x
writes_none x h = record { wrote = wrote_none x.out.now x.at h; size = refl; same_buffer = refl }

-- two texts, one behind the other
pub writes_then : {x y z : Lines} {s t : List ℕ} {m n : ℕ} → Writes x s m y → Writes y t n z → Writes x (s ++ t) (m + n) z
writes_then v w = record { wrote = wrote_then v.wrote w.wrote; size = w.size ∙ v.size; same_buffer = w.same_buffer ∙ v.same_buffer }

-- in any room that the text has
pub writes-within : {x y : Lines} {s : List ℕ} {m n : ℕ} → length s ≤ n → Writes x s m y → Writes x s n y
writes-within h w = record { wrote = wrote-within h w.wrote; size = w.size; same_buffer = w.same_buffer }

-- with more room
pub writes_in : {x y : Lines} {s : List ℕ} {m n : ℕ} → m ≤ n → Writes x s m y → Writes x s n y
writes_in h w = record { wrote = wrote_in h w.wrote; size = w.size; same_buffer = w.same_buffer }

pub writes_as : {x y : Lines} {s t : List ℕ} {m : ℕ} → s ≡ t → Writes x s m y → Writes x t m y
writes_as {x} {y} {s} {t} {m} e w = subst (λ (l : List ℕ). Writes x l m y) e w
