-- The lines of a call as they are written: pair by pair from the numbers of the buffer. Assumes nothing.
use Prim.Native.Nat.{ℕ, ◌+◌, ◌*◌, ◌/◌, ◌≤◌, ◌<◌}
use mathlib.Core.Path.{◌≡◌, refl, sym, ap, ◌∙◌}
use Rattle.std.specs.Prelude.{None, Some}
use Rattle.pairing.specs.declared.Refusal.{Refusal}
use mathlib.Core.List.{List, [], ◌∷◌, ◌++◌, append_assoc, append-nil}
use native.Mathlib.Omega.{arith}
use lib.ListN.{length, get_or, take, drop, length-append, length-drop}
use lib.Seq.{take_at}
use Rattle.lists.proofs.Past.{cut}
use Rattle.print.specs.Reply.{refused_text}
use Rattle.print.specs.declared.lines.Lines.{Lines}
use Rattle.print.specs.Steps.{Writes}
use Rattle.print.specs.Written.{length_written, buffer_after}
use Rattle.print.proofs.Writes.{writes_none, writes_then, writes_in, writes_as}
use Rattle.pairing.specs.Pairing.{Pair, flat}
use Rattle.pairing.specs.Answer.{longest_list, number_of, refusal_of, Given}
use Rattle.pairing.specs.declared.Counts.{Counts}
use Rattle.pairing.proofs.Accepted.{accepted}
use Rattle.exitlog.specs.Lines.{pair_text, pairs_text, counts_text, paired, refused, pair_room, call_room, Printed}
use Rattle.exitlog.specs.Views.{numbers_text}

-- the numbers of a pairing are its lines
pub pairs_text_lem : (ps : List Pair) → numbers_text (flat ps) ≡ pairs_text ps
pairs_text_lem [] = refl
pairs_text_lem (p ∷ ps) = ap (λ (t : List ℕ). pair_text p.verdict p.signal ++ t) (pairs_text_lem ps)

pub length_flat : (ps : List Pair) → length (flat ps) ≡ 2 * length ps
length_flat [] = refl
length_flat (p ∷ ps) = let h = length_flat ps in omega (arith, h)

-- ---- the loop: i pairs are written

pub record Going (before : Lines) (pairs : List ℕ) (now : Lines) (i : ℕ) : Type 0 where
  pub done : List ℕ
  pub wrote : Writes before done (pair_room * i) now
  pub left : done ++ numbers_text (drop (2 * i) pairs) ≡ numbers_text pairs
  pub within : i ≤ length pairs / 2

pub going_start : (before : Lines) (pairs : List ℕ) → before.at ≤ length before.out.now → Going before pairs before 0
going_start before pairs h = record { done = []; wrote = writes_none before h; left = refl; within = omega arith }

two-more : (pairs : List ℕ) (i : ℕ) → 2 * i + 1 < length pairs → drop (2 * i) pairs ≡ get_or pairs (2 * i) 0 ∷ get_or pairs (2 * i + 1) 0 ∷ drop (2 * (i + 1)) pairs
two-more pairs i h =
    let e : 2 * i + 1 + 1 ≡ 2 * (i + 1) = omega arith in
    cut pairs (2 * i) (omega (arith, h)) ∙ ap (λ (l : List ℕ). get_or pairs (2 * i) 0 ∷ l) (rw e at (cut pairs (2 * i + 1) h))

-- of fewer than two numbers there is no pair
none-left : (l : List ℕ) → length l < 2 → numbers_text l ≡ []
none-left [] h = refl
none-left (v ∷ []) h = refl
none-left (v ∷ t ∷ l) h = absurd (omega (arith, h))

module _ (before : Lines) (pairs : List ℕ) (now : Lines) (i : ℕ) (g : Going before pairs now i) where
  pub going_on : i < length pairs / 2 → (next : Lines)
      → Writes now (pair_text (get_or pairs (2 * i) 0) (get_or pairs (2 * i + 1) 0)) pair_room next → Going before pairs next (i + 1)
  going_on h next w =
      let v = get_or pairs (2 * i) 0 in
      let t = get_or pairs (2 * i + 1) 0 in
      let is : numbers_text (drop (2 * i) pairs) ≡ pair_text v t ++ numbers_text (drop (2 * (i + 1)) pairs) = rw (two-more pairs i (omega (arith, h))) refl in
      record {
        done = g.done ++ pair_text v t;
        wrote = writes_in (omega arith) (writes_then g.wrote w);
        left = append_assoc g.done (pair_text v t) (numbers_text (drop (2 * (i + 1)) pairs)) ∙ ap (λ (l : List ℕ). g.done ++ l) (sym is) ∙ g.left;
        within = omega (arith, h);
      }

  pub room-left : i < length pairs / 2 → before.at + pair_room * (length pairs / 2) ≤ length before.out.now → now.at + pair_room ≤ length now.out.now
  room-left h room =
      let p = g.wrote.wrote.place in
      let q = g.wrote.wrote.short in
      let e = g.wrote.size in
      omega (arith, h, room, p, q, e)

  pub going_ends : length pairs / 2 ≤ i → Writes before (numbers_text pairs) (pair_room * (length pairs / 2)) now
  going_ends h =
      let k = g.within in
      let all : i ≡ length pairs / 2 = omega (arith, h, k) in
      let l = length-drop (2 * i) pairs in
      let none : numbers_text (drop (2 * i) pairs) ≡ [] = none-left (drop (2 * i) pairs) (omega (arith, all, l)) in
      let is : g.done ≡ numbers_text pairs = sym (append-nil g.done) ∙ (rw none at g.left) in
      writes_as is (writes_in (omega (arith, all)) g.wrote)

-- ---- what a call prints, by its answer

module _ (vs ts : List ℕ) (a b : ℕ) (before after : List ℕ) (c : Counts) (ok : refusal_of vs ts a b (length before) ≡ None) (g : Given vs ts a b before after c) where
  -- the pairs stand in the buffer, at most as many as a list has ticks
  pub pairs-within : (2 * c.pairs ≤ length after) × (c.pairs ≤ longest_list)
  pairs-within =
      let h = accepted vs ts a b (length before) ok in
      let size = ap length g.written ∙ length-append (flat g.pairs) (drop (2 * length g.pairs) before) in
      (omega (arith, size, length_flat g.pairs, g.counted.paired), omega (arith, h.short, g.counted.verdicts_add))

  numbers-are : take (2 * c.pairs) after ≡ flat g.pairs
  numbers-are = rw (g.written, g.counted.paired) (take_at (flat g.pairs) (drop (2 * length g.pairs) before) (2 * length g.pairs) (length_flat g.pairs))

  lines_are : numbers_text (take (2 * c.pairs) after) ++ counts_text c ≡ pairs_text g.pairs ++ counts_text c
  lines_are = rw (numbers-are, pairs_text_lem g.pairs) refl

  pub paired-lines : (out out' : List ℕ) (n : ℕ)
      → (n ≡ length_written call_room (numbers_text (take (2 * c.pairs) after) ++ counts_text c) out) × (out' ≡ buffer_after call_room (numbers_text (take (2 * c.pairs) after) ++ counts_text c) out)
      → Printed vs ts a b (length before) out out' n
  paired-lines out out' n w =
      record { text = pairs_text g.pairs ++ counts_text c; prints = paired ok g.largest g.counted; end = rw lines_are at w.0; output = rw lines_are at w.1 }

pub refused-line : (vs ts : List ℕ) (a b room : ℕ) (r : Refusal) → refusal_of vs ts a b room ≡ Some r → (out out' : List ℕ) (m : ℕ)
    → (m ≡ length_written call_room (refused_text (number_of r) 0) out) × (out' ≡ buffer_after call_room (refused_text (number_of r) 0) out) → Printed vs ts a b room out out' m
refused-line vs ts a b room r e out out' m w = record { text = refused_text (number_of r) 0; prints = refused e; end = w.0; output = w.1 }
