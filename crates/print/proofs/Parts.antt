-- Fields that are written one behind the other, and in parts. Assumes nothing.
use mathlib.Core.Path.{◌≡◌, refl, sym, ap, ◌∙◌}
use mathlib.Core.List.{List, [], ◌∷◌, ◌++◌, append_assoc, append-nil}
use Prim.Native.Nat.{ℕ, ◌+◌, ◌≤◌, ◌<◌}
use native.Mathlib.Omega.{arith}
use lib.ListN.{length}
use Rattle.decimal.specs.Bytes.{bytes}
use Rattle.event.specs.declared.reply.Done.{Done}
use Rattle.print.specs.Text.{ahead, joined, line_end}
use Rattle.print.specs.Reply.{shown, did, done_text}
use Rattle.print.specs.Steps.{Writes}
use Rattle.print.specs.declared.lines.Lines.{Lines}
use Rattle.print.proofs.Writes.{writes_then, writes_in, writes_as}

-- a run of fields, each with `between` in front, and the sum of their rooms
infixr 20 ◌⨾◌
pub data Run (between : List ℕ) : Lines → List (List ℕ) → ℕ → Lines → Type 0 where
  last : {x y : Lines} {m : ℕ} {f : List ℕ} → Writes x (between ++ f) m y → Run between x (f ∷ []) m y
  ◌⨾◌ : {x y z : Lines} {m n : ℕ} {f : List ℕ} {fs : List (List ℕ)}
      → Writes x (between ++ f) m y → Run between y fs n z → Run between x (f ∷ fs) (m + n) z

writes-run : {between : List ℕ} {x y : Lines} {n : ℕ} {fs : List (List ℕ)} → Run between x fs n y → Writes x (ahead between fs) n y
writes-run {between} (last {f = f} w) = writes_as (ap (λ (l : List ℕ). between ++ l) (sym (append-nil f))) w
writes-run {between} (◌⨾◌ {f = f} {fs = fs} w run) = writes_as (append_assoc between f (ahead between fs)) (writes_then w (writes-run run))

-- what a run of fields wrote, where there is room for it
pub writes-fields : {x y : Lines} {n room : ℕ} (between : List ℕ) (fs : List (List ℕ)) → Run between x fs n y → n ≤ room
    → Writes x (ahead between fs) room y
writes-fields between fs run h = writes_in h (writes-run run)

-- and behind a first field
pub writes-joined : {x y z : Lines} {m n room : ℕ} (between f : List ℕ) (fs : List (List ℕ)) → Writes x f m y → Run between y fs n z
    → m + n ≤ room → Writes x (joined between (f ∷ fs)) room z
writes-joined between f fs w run h = writes_in h (writes_then w (writes-run run))

-- parts of fields
module _ (between : List ℕ) where
  pub ahead_then : (fs gs : List (List ℕ)) → ahead between (fs ++ gs) ≡ ahead between fs ++ ahead between gs
  ahead_then [] gs = refl
  ahead_then (f ∷ fs) gs = ap (λ (l : List ℕ). between ++ (f ++ l)) (ahead_then fs gs) ∙ simp append_assoc

  pub two-parts : (fs gs : List (List ℕ)) (e : List ℕ) → 0 < length fs → joined between fs ++ (ahead between gs ++ e) ≡ joined between (fs ++ gs) ++ e
  two-parts [] gs e h = absurd (omega arith)
  two-parts (f ∷ fs) gs e h = rw (ahead_then fs gs) (simp append_assoc)

  pub six-parts : (fs gs hs is js ks : List (List ℕ)) (e : List ℕ) → 0 < length fs
      → joined between fs ++ (ahead between gs ++ (ahead between hs ++ (ahead between is ++ (ahead between js ++ (ahead between ks ++ e)))))
      ≡ joined between (fs ++ (gs ++ (hs ++ (is ++ (js ++ ks))))) ++ e
  six-parts fs gs hs is js ks e h =
      sym (sym (two-parts fs (gs ++ (hs ++ (is ++ (js ++ ks)))) e h)
      ∙ rw (ahead_then gs (hs ++ (is ++ (js ++ ks))), ahead_then hs (is ++ (js ++ ks)), ahead_then is (js ++ ks), ahead_then js ks) (simp append_assoc))

-- the line of a reply: what is shown, what was done, and LF
pub done_written : {x y z w : Lines} (d : Done) → Writes x (joined (bytes " ") (shown d)) 111 y → Writes y (ahead (bytes " ") (did d)) 140 z
    → Writes z line_end 1 w → Writes x (done_text d) 252 w
unfolding done_text
done_written d a b c =
    writes_in (omega arith) (writes_as (two-parts (bytes " ") (shown d) (did d) line_end (omega arith)) (writes_then a (writes_then b c)))
