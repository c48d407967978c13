-- What was read and written, turn by turn. Assumes nothing.
--     traced_fresh     nothing yet
--     traced_on        lines are answered, and the answers written
--     traced_more      more is read
--     traced_ends      no more will come, and no line is left: what was written is what the program prints
--     traced_begun     at any time it is the beginning of it
use mathlib.Core.Path.{◌≡◌, refl, sym, ap, subst, ◌∙◌}
use mathlib.Core.Logic.{◌≢◌}
use mathlib.Core.Bool.{Bool, true, false}
use mathlib.Core.List.{List, [], ◌∷◌, ◌++◌, append_assoc, append-nil}
use Prim.Native.Nat.{ℕ, ◌+◌, ◌-◌, ◌≤◌, ◌<◌, min}
use native.Mathlib.Omega.{arith}
use lib.Dec.{eqb, ltb}
use lib.ListN.{length, take, drop, length-drop}
use lib.Seq.{take-add, take_all, drop_at, drop-drop, length-take-le}
use borrow.Author.Tests.{ltb-true, ltb-false, eqb-true, eqb-false}
use Rattle.laws.proofs.Tests.{by_cases, never}
use Rattle.line.specs.State.{State, fresh_state}
use Rattle.blocks.specs.Lines.{NoLf}
use Rattle.blocks.specs.Left.{kept_bytes, last_of, EndSeen, bytes_left, past_of, at_end, Filled, Refilled}
use Rattle.blocks.specs.declared.left.Left.{Left}
use Rattle.blocks.specs.declared.output.Taken.{Taken}
use Rattle.blocks.specs.Taken.{TakenOf}
use Rattle.blocks.specs.Known.{Streams, streams, read_bytes, Drawn}
use Rattle.blocks.proofs.Passing.{passed_none, passed_in, passed_end, passed_out}
use Rattle.std.specs.Prelude.{Option}
use Rattle.std.specs.Io.KnownBytes.{Consumes, Appends, IsAtEnd}
use Rattle.controller.specs.Answer.{no_room}
use Rattle.controller.specs.Input.{printed, program}
use Rattle.sessions.proofs.Answered.{Says, AnsweredUpTo}
use Rattle.checkweigher.specs.Traces.{written_in, Traced, Whole, Begun, CutShort}
use Rattle.checkweigher.proofs.Prints.{prints-none, prints-kept, prints-closed, kept_no_lf, ended-closed}

written_none : written_in [] ≡ []
unfolding written_in
written_none = refl

written-more : (text : List ℕ) (texts : List (List ℕ)) → written_in (text ∷ texts) ≡ written_in texts ++ text
unfolding written_in
written-more text texts = refl

program-is : (input : List ℕ) → program input ≡ printed fresh_state input
unfolding program
program-is input = refl

pub traced_fresh : (x : Streams) → Traced x x fresh_state [] false 0
traced_fresh x =
    record {
      input = [];
      written = [];
      passed = rw written_none (passed_none x);
      turned = refl;
      prints = λ more _. rw written_none (program-is more);
      closed = λ e. never e;
    }

module _ (before now : Streams) (s : State) (left : List ℕ) (last : Bool) (turns : ℕ) (t : Traced before now s left last turns) where
  -- the bytes from k on are left
  pub traced_on : (p : State) (k : ℕ) (text : List ℕ) → Says s left p (drop k left) text → (holds : Option (List ℕ)) → Appends now.holds holds text
      → Traced before (streams now.left holds) p (drop k left) last (turns + 1)
  traced_on p k text says holds a =
      let n = t.turned in
      record {
        input = t.input;
        written = text ∷ t.written;
        passed = rw (written-more text t.written) (passed_out before now t.input (written_in t.written) t.passed holds text a);
        turned = omega (arith, n);
        prints = λ more h.
            t.prints more h ∙ ap (λ (x : List ℕ). written_in t.written ++ x) (says more)
            ∙ sym (append_assoc (written_in t.written) text (printed p (drop k left ++ more)))
            ∙ ap (λ (x : List ℕ). x ++ printed p (drop k left ++ more)) (sym (written-more text t.written));
        closed = λ e j h. subst (λ (x : List ℕ). NoLf x → x ≡ []) (sym (drop-drop j k left)) (t.closed e (k + j)) h;
      }

  over_read : program t.input ≡ written_in t.written ++ printed s (left ++ [])
  over_read = ap program (sym (append-nil t.input)) ∙ t.prints [] (λ _. refl)

  pub traced_begun : {all : ℕ} → turns ≡ all → Begun before now all
  traced_begun e = record { input = t.input; written = t.written; passed = t.passed; rest = printed s (left ++ []); turned = t.turned ∙ e; begun = over_read }

  pub traced_cut : (p : State) (rest text : List ℕ) → Says s left p rest text → (taken : Taken) → length text ≡ taken.of → taken.taken < taken.of
      → (holds : Option (List ℕ)) → Appends now.holds holds (take taken.taken text) → CutShort before (streams now.left holds) taken
  traced_cut p rest text says taken size less holds a =
      record {
        input = t.input;
        written = t.written;
        due = text;
        passed = passed_out before now t.input (written_in t.written) t.passed holds (take taken.taken text) a;
        rest = printed p (rest ++ []);
        size = size;
        less = less;
        begun = over_read ∙ ap (λ (x : List ℕ). written_in t.written ++ x) (says []) ∙ sym (append_assoc (written_in t.written) text (printed p (rest ++ [])));
      }

  pub traced_ends : last ≡ true → NoLf left → Whole before now
  traced_ends e h =
      let none : left ≡ [] = t.closed e 0 h in
      record {
        input = t.input;
        written = t.written;
        passed = t.passed;
        whole =
            sym (over_read
            ∙ ap (λ (x : List ℕ). written_in t.written ++ printed s (x ++ [])) none
            ∙ ap (λ (x : List ℕ). written_in t.written ++ x) (prints-none s) ∙ append-nil (written_in t.written));
      }

module _ (before now : Streams) (s : State) (left : List ℕ) (turns : ℕ) (t : Traced before now s left false turns) (none : NoLf left) where
  abbrev kept : List ℕ
  kept = take kept_bytes left

  more-prints : (new more : List ℕ) → program (t.input ++ (new ++ more)) ≡ written_in t.written ++ printed s (kept ++ (new ++ more))
  more-prints new more = t.prints (new ++ more) (λ e. never e) ∙ ap (λ (x : List ℕ). written_in t.written ++ x) (prints-kept s left (new ++ more) none)

  traced_new : (reads : Option (List ℕ)) (new : List ℕ) → Consumes now.left reads new → Traced before (streams reads now.holds) s (kept ++ new) false turns
  traced_new reads new c =
      record {
        input = t.input ++ new;
        written = t.written;
        passed = passed_in before now t.input (written_in t.written) t.passed reads new c;
        turned = t.turned;
        prints = λ more _.
            ap program (append_assoc t.input new more) ∙ more-prints new more
            ∙ ap (λ (x : List ℕ). written_in t.written ++ printed s x) (sym (append_assoc kept new more));
        closed = λ e. never e;
      }

  traced_last : (reads : Option (List ℕ)) → Consumes now.left reads [] → Traced before (streams reads now.holds) s (kept ++ at_end kept) true turns
  traced_last reads c =
      record {
        input = t.input;
        written = t.written;
        passed = passed_end before now t.input (written_in t.written) t.passed reads c;
        turned = t.turned;
        prints = λ more h.
            rw (h refl) (
            more-prints [] [] ∙ ap (λ (x : List ℕ). written_in t.written ++ x) (prints-closed s kept (kept_no_lf left none))
            ∙ ap (λ (x : List ℕ). written_in t.written ++ printed s x) (sym (append-nil (kept ++ at_end kept))));
        closed = λ _. ended-closed kept;
      }

  pub traced_more : (l : Left) (input : List ℕ) → Filled kept l input → (reads : Option (List ℕ)) → Drawn now.left reads kept l input
      → Traced before (streams reads now.holds) s (bytes_left l input) (last_of l) turns
  traced_more l input f reads d =
      by_cases (last_of l)
      (λ y.
      let e : bytes_left l input ≡ kept ++ at_end kept = rw y at f.bytes in
      let none-read : read_bytes kept l input ≡ [] = rw y refl in
      rw (e, y) (traced_last reads (subst (Consumes now.left reads) none-read d.given)))
      (λ n.
      let e : bytes_left l input ≡ kept ++ f.new = rw n at f.bytes in
      let new-read : read_bytes kept l input ≡ f.new = rw (n, e) (drop_at kept f.new (length kept) refl) in
      rw (e, n) (traced_new reads f.new (subst (Consumes now.left reads) new-read d.given)))

-- ---- the bytes from start to end, as a part of the buffer and as what is left of it
part-is : (l : List ℕ) (start end : ℕ) → start ≤ end → end ≤ length l → drop start (take end l) ≡ take (end - start) (drop start l)
part-is l start end h g =
    let size : start + (end - start) ≡ end = omega (arith, h) in
    ap (λ (k : ℕ). drop start (take k l)) (sym size) ∙ ap (λ (x : List ℕ). drop start x) (take-add start (end - start) l)
    ∙ drop_at (take start l) (take (end - start) (drop start l)) start (length-take-le start l (omega (arith, h, g)))

-- a place in them lies before the end
place-within : (l : List ℕ) (start end k : ℕ) → start ≤ end → end ≤ length l → k ≤ length (take (end - start) (drop start l)) → start + k ≤ end
place-within l start end k h g p =
    let n = length-drop start l in
    let m = length-take-le (end - start) (drop start l) (omega (arith, n, h, g)) in
    omega (arith, m, p, h)

-- past them
past_is : (l : Left) (input : List ℕ) (k : ℕ) → l.start + k ≤ l.end → bytes_left (past_of l k) input ≡ drop k (bytes_left l input)
past_is l input k h =
    let on : min (l.start + k) l.end ≡ l.start + k = omega (arith, h) in
    rw on (sym (drop-drop k l.start (take l.end input)))

past_order : (l : Left) (k : ℕ) → l.start + k ≤ l.end → (past_of l k).start ≤ (past_of l k).end
past_order l k h = omega (arith, h)

below : (a b : ℕ) → a ≤ b → a ≢ b → a < b
below a b h n =
    by_cases (ltb a b)
    (λ y. ltb-true a b y)
    (λ z. let g = ltb-false a b z in absurd (n (omega (arith, h, g))))

-- ---- a turn: a block is served, and its answers written
module _ (before now : Streams) (input out : List ℕ) (left : Left) (s p : State) (turns k at : ℕ) (order : left.start ≤ left.end) (within : left.end ≤ length input)
    (t : Traced before now s (bytes_left left input) (last_of left) turns)
    (a : AnsweredUpTo s (take (left.end - left.start) (drop left.start input)) out p k at) where
  abbrev part : bytes_left left input ≡ take (left.end - left.start) (drop left.start input)
  part = part-is input left.start left.end order within

  says : Says s (bytes_left left input) p (drop k (bytes_left left input)) (take at out)
  says = rw part a.said.says

  stays : left.start + k ≤ left.end
  stays = place-within input left.start left.end k order within a.said.place

  pub turn-cut : (taken : Taken) → TakenOf (length (take at out)) taken → eqb taken.taken taken.of ≡ false
      → (holds : Option (List ℕ)) → Appends now.holds holds (take taken.taken (take at out)) → CutShort before (streams now.left holds) taken
  turn-cut taken g n holds w =
      let d = eqb-false taken.taken taken.of n in
      let e = g.whole in
      let h = g.within in
      traced_cut before now s (bytes_left left input) (last_of left) turns t p (drop k (bytes_left left input)) (take at out) says taken (sym e) (below taken.taken taken.of (omega (arith, e, h)) d) holds w

  -- all of it was taken
  module _ (taken : Taken) (g : TakenOf (length (take at out)) taken) (all : eqb taken.taken taken.of ≡ true)
      (holds : Option (List ℕ)) (w : Appends now.holds holds (take taken.taken (take at out))) where
    turned : Traced before (streams now.left holds) p (drop k (bytes_left left input)) (last_of left) (turns + 1)
    turned =
        let e = eqb-true taken.taken taken.of all in
        let m = g.whole in
        traced_on before now s (bytes_left left input) (last_of left) turns t p k (take at out) says holds
        (subst (Appends now.holds holds) (take_all taken.taken (take at out) (omega (arith, e, m))) w)

    -- with too little room for the next answer what is left stays
    pub turn-stays : ((past_of left k).start ≤ (past_of left k).end) × (left.end ≤ length input)
        × Traced before (streams now.left holds) p (bytes_left (past_of left k) input) (last_of left) (turns + 1)
    turn-stays =
        (past_order left k stays, within, subst (λ (x : List ℕ). Traced before (streams now.left holds) p x (last_of left) (turns + 1)) (sym (past_is left input k stays)) turned)

    module _ (roomy : no_room (length out) at ≡ false) where
      none_left_lem : NoLf (drop k (bytes_left left input))
      none_left_lem = rw part (a.all roomy)

      pub turn-ends : last_of left ≡ true → Whole before (streams now.left holds)
      turn-ends y = traced_ends before (streams now.left holds) p (drop k (bytes_left left input)) (last_of left) (turns + 1) turned y none_left_lem

      pub turn-reads : last_of left ≡ false → kept_bytes < length input → (l : Left) (after : List ℕ) → Refilled (past_of left k) input l after
          → (reads : Option (List ℕ)) → Drawn now.left reads (take kept_bytes (bytes_left (past_of left k) input)) l after
          → (l.start ≤ l.end) × (l.end ≤ length after) × Traced before (streams reads holds) p (bytes_left l after) (last_of l) (turns + 1) × (EndSeen l → IsAtEnd reads)
      turn-reads n big l after g reads d =
          let is = past_is left input k stays in
          let f : Filled (take kept_bytes (drop k (bytes_left left input))) l after = subst (λ (x : List ℕ). Filled (take kept_bytes x) l after) is (g.filled big) in
          let drawn : Drawn now.left reads (take kept_bytes (drop k (bytes_left left input))) l after = subst (λ (x : List ℕ). Drawn now.left reads (take kept_bytes x) l after) is d in (
            f.order,
            f.within,
            traced_more before (streams now.left holds) p (drop k (bytes_left left input)) (turns + 1)
                (subst (λ (x : Bool). Traced before (streams now.left holds) p (drop k (bytes_left left input)) x (turns + 1)) n turned) none_left_lem l after f reads drawn,
            drawn.ended,
          )
