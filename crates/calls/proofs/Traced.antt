-- What was read and written, turn by turn. Assumes nothing.
--     took_all, took_less     what `write` took of a text
--     traced_fresh            nothing yet
--     turn-goes               a line is served, and what it prints written
--     turn-reads              more is read
--     turn-finished           no more will come, and no line is left: the end prints what closes the call
--     turn-due, traced-due    at any time what was written is the beginning of it
use mathlib.Core.Path.{◌≡◌, refl, sym, ap, subst, ◌∙◌}
use mathlib.Core.Bool.{Bool, true, false}
use mathlib.Core.List.{List, [], ◌∷◌, ◌++◌, append_assoc, append-nil}
use Prim.Native.Nat.{ℕ, zero, suc, ◌+◌, ◌-◌, ◌^◌, ◌≤◌, ◌<◌, min}
use native.Mathlib.Omega.{arith}
use lib.Dec.{ltb}
use lib.ListN.{length, take, drop, length-append, length-drop, length-take}
use lib.Seq.{take_all, take-add, take-take, drop_at, drop-drop, length-take-le}
use borrow.Author.Tests.{ltb-true, ltb-false, eqb-true, eqb-false}
use Rattle.laws.specs.Choice.{when◌then◌else◌}
use Rattle.laws.proofs.Tests.{by_cases, never}
use Rattle.blocks.specs.Lines.{line_length, NoLf, end_from}
use Rattle.blocks.specs.declared.left.Standing.{Standing}
use Rattle.blocks.specs.Left.{kept_bytes, standing, is_over, count_of, last_of, EndSeen, bytes_left, past_of, at_end, Filled, Refilled}
use Rattle.blocks.specs.declared.left.Left.{Left}
use Rattle.blocks.specs.declared.output.Taken.{Taken}
use Rattle.blocks.specs.Taken.{all_taken, TakenOf}
use Rattle.blocks.specs.Known.{Streams, streams, Passed, read_bytes, Drawn}
use Rattle.blocks.proofs.Ends.{at_most}
use Rattle.blocks.proofs.Passing.{passed_none, passed_in, passed_end, passed_out}
use Rattle.std.specs.Prelude.{Option, None, Some}
use Rattle.std.specs.Io.KnownBytes.{Consumes, Appends, IsAtEnd}
use Rattle.calls.specs.Service.{Service, after_line, SaysLine}
use Rattle.calls.specs.Traces.{entries_of, Printing, ended, line, Program, Traced, Whole, Begun, EndsSo, Finished}
use Rattle.blocks.specs.declared.ended.Ended.{Ended}
use Rattle.blocks.specs.declared.ended.Ended.TheVariants.{Input, Output, Turns}
use Rattle.calls.proofs.Lines.{first_entry, no_entry, kept-entries, ended-entries, ended-closed}

-- ---- what `write` took of a text at the front of the output

module _ (text : List ℕ) (t : Taken) (g : TakenOf (length text) t) where
  pub took_all : all_taken t ≡ true → take t.taken text ≡ text
  took_all h = let e = g.whole in take_all t.taken text (omega (arith, e, eqb-true t.taken t.of h))

  pub took_less : all_taken t ≡ false → (length text ≡ t.of) × (t.taken < t.of)
  took_less h =
      let n = eqb-false t.taken t.of h in
      let w = g.within in
      let e = g.whole in
      (sym e, below t.taken t.of (omega (arith, w, e)) n)
    where
      below : (a b : ℕ) → a ≤ b → (a ≡ b → ⊥) → a < b
      below a b p q = by_cases (ltb a b) (λ y. ltb-true a b y) (λ n. let r = ltb-false a b n in absurd (q (omega (arith, p, r))))

-- ---- how much a turn reads

bonus : (last : Bool) → (when last then 2 else 0) ≤ 2
bonus true = omega arith
bonus false = omega arith

end-length : (held : List ℕ) → length (at_end held) ≤ 1
end-length [] = omega arith
end-length (b ∷ held) = omega arith

some_new : (got : Option ℕ) (over : Standing) → over ≡ standing got → is_over over ≡ false → (new : List ℕ) → length new ≡ count_of got → 0 < length new
some_new None over e f new n = never (sym f ∙ ap is_over e)
some_new (Some zero) over e f new n = never (sym f ∙ ap is_over e)
some_new (Some (suc k)) over e f new n = omega (arith, n)

-- a program that reads a line by what is kept of it, and whose end prints nothing before the first line
module _ (prog : Service) (cut : (t : List ℕ) → prog.reads (take kept_bytes t) ≡ prog.reads t) (quiet : (text : List ℕ) → prog.Closes prog.start text → text ≡ []) where
  pub traced_fresh : (x : Streams) → Traced prog x x prog.start [] false 0
  traced_fresh x = record { input = []; written = []; passed = passed_none x; prints = λ more text _ p. p; closed = λ e. never e; turned = omega arith }

  -- where no call has begun the end prints nothing
  nothing-more : {text : List ℕ} → Printing prog prog.start (entries_of prog []) text → text ≡ []
  nothing-more {text} p = closed-by (subst (λ (es : List (Option prog.Entry)). Printing prog prog.start es text) (no_entry prog) p)
    where
      closed-by : {text : List ℕ} → Printing prog prog.start [] text → text ≡ []
      closed-by {text} (ended e) = quiet text e

  module _ (before now : Streams) (s : prog.State) (left : List ℕ) (last : Bool) {turns : ℕ} (t : Traced prog before now s left last turns) where
    abbrev out : (holds : Option (List ℕ)) (new : List ℕ) → Appends now.holds holds new → Passed before (streams now.left holds) t.input (t.written ++ new)
    out holds new a = passed_out before now t.input t.written t.passed holds new a

    -- the first line of what is left
    abbrev pub said : Option prog.Entry
    said = prog.reads (take (line_length left) left)

    module _ (whole : line_length left < length left) (first : List ℕ) (says : SaysLine prog s said first) where
      on : (more text : List ℕ) → (last ≡ true → more ≡ []) → Printing prog (after_line prog s said) (entries_of prog (drop (line_length left + 1) left ++ more)) text
          → Program prog (t.input ++ more) ((t.written ++ first) ++ text)
      on more text l p =
          rw (append_assoc t.written first text) (t.prints more (first ++ text) l (rw (first_entry prog left more whole) (line first text says p)))

      pub traced-line : (holds : Option (List ℕ)) → Appends now.holds holds first → Traced prog before (streams now.left holds) (after_line prog s said) (drop (line_length left + 1) left) last (turns + 1)
      traced-line holds a =
          record {
            input = t.input;
            written = t.written ++ first;
            passed = out holds first a;
            prints = on;
            closed = λ e k h. subst (λ (x : List ℕ). NoLf x → x ≡ []) (sym (drop-drop k (line_length left + 1) left)) (t.closed e (line_length left + 1 + k)) h;
            turned = let d = length-drop (line_length left + 1) left in let before_it = t.turned in omega (arith, d, whole, before_it);
          }

      pub line-due : (holds : Option (List ℕ)) (n : ℕ) → Appends now.holds holds (take n first) → Begun prog before (streams now.left holds) first n
      line-due holds n a =
          record {
            input = t.input ++ [];
            written = t.written;
            passed = rw (append-nil t.input) (out holds (take n first) a);
            state = after_line prog s said;
            left = drop (line_length left + 1) left ++ [];
            begun = λ text p. on [] text (λ _. refl) p;
          }

    pub traced-due : Begun prog before now [] 0
    traced-due =
        record {
          input = t.input ++ [];
          written = t.written;
          passed = rw (append-nil t.input, append-nil t.written) t.passed;
          state = s;
          left = left ++ [];
          begun = λ text p. rw (append-nil t.written) (t.prints [] text (λ _. refl) p);
        }

    -- so many turns read so much
    pub turns-read : turns ≡ 2 ^ 64 - 1 → 2 ^ 63 - 1 ≤ length traced-due.input
    unfolding traced-due
    turns-read h = let t' = t.turned in let n = append-nil t.input in rw n (omega (arith, h, t', bonus last))

    -- what the end prints
    module _ (over : last ≡ true) (none : NoLf left) (text : List ℕ) (closes : prog.Closes s text) where
      all : Program prog (t.input ++ []) (t.written ++ text)
      all =
          let gone : left ≡ [] = t.closed over 0 none in
          t.prints [] text (λ _. refl) (rw (gone, (no_entry prog)) (ended closes))

      pub traced_ends : (holds : Option (List ℕ)) → Appends now.holds holds text → Whole prog before (streams now.left holds)
      traced_ends holds a = record { input = t.input ++ []; written = t.written ++ text; passed = rw (append-nil t.input) (out holds text a); whole = all }

      -- behind it nothing is printed
      pub traced-end-due : (holds : Option (List ℕ)) (n : ℕ) → Appends now.holds holds (take n text) → Begun prog before (streams now.left holds) text n
      traced-end-due holds n a =
          record { input = t.input ++ []; written = t.written; passed = rw (append-nil t.input) (out holds (take n text) a); state = prog.start; left = []; begun = λ more p. rw (nothing-more p, append-nil (t.written ++ text)) all }

  module _ (before now : Streams) (s : prog.State) (left : List ℕ) {turns : ℕ} (t : Traced prog before now s left false turns) (none : NoLf left) where
    abbrev kept : List ℕ
    kept = take kept_bytes left

    traced_new : (reads : Option (List ℕ)) (new : List ℕ) → 0 < length new → Consumes now.left reads new → Traced prog before (streams reads now.holds) s (kept ++ new) false (turns + 1)
    traced_new reads new some c =
        record {
          input = t.input ++ new;
          written = t.written;
          passed = passed_in before now t.input t.written t.passed reads new c;
          prints = λ more text _ p.
              rw (append_assoc t.input new more) (
              t.prints (new ++ more) text (λ e. never e)
              (subst (λ (es : List (Option prog.Entry)). Printing prog s es text) (kept-entries prog cut left (new ++ more) none) (rw (append_assoc kept new more) at p)));
          closed = λ e. never e;
          turned =
              let t' = t.turned in
              let i = length-append t.input new in
              let l = length-append kept new in
              omega (arith, t', i, l, some, length-take kept_bytes left);
        }

    traced_last : (reads : Option (List ℕ)) → Consumes now.left reads [] → Traced prog before (streams reads now.holds) s (kept ++ at_end kept) true (turns + 1)
    traced_last reads c =
        record {
          input = t.input;
          written = t.written;
          passed = passed_end before now t.input t.written t.passed reads c;
          prints = λ more text h p.
              rw (h refl) (
              t.prints [] text (λ e. never e)
              (subst (λ (es : List (Option prog.Entry)). Printing prog s es text) (ended-entries prog cut left none) (rw (h refl, append-nil (kept ++ at_end kept)) at p)));
          closed = λ _. ended-closed kept;
          turned =
              let t' = t.turned in
              let l = length-append kept (at_end kept) in
              omega (arith, t', l, length-take kept_bytes left, end-length kept);
        }

    pub traced_more : (l : Left) (input : List ℕ) → Filled kept l input → (reads : Option (List ℕ)) → Drawn now.left reads kept l input
        → Traced prog before (streams reads now.holds) s (bytes_left l input) (last_of l) (turns + 1)
    traced_more l input f reads d =
        by_cases (last_of l)
        (λ y.
        let e : bytes_left l input ≡ kept ++ at_end kept = rw y at f.bytes in
        let none-read : read_bytes kept l input ≡ [] = rw y refl in
        rw (e, y) (traced_last reads (subst (Consumes now.left reads) none-read d.given)))
        (λ n.
        let e : bytes_left l input ≡ kept ++ f.new = rw n at f.bytes in
        let new-read : read_bytes kept l input ≡ f.new = rw (n, e) (drop_at kept f.new (length kept) refl) in
        rw (e, n) (traced_new reads f.new (some_new f.got l.over f.stands n f.new f.counted) (subst (Consumes now.left reads) new-read d.given)))

  -- ---- a turn of the loop

  module _ (before now : Streams) (input : List ℕ) (left : Left) (s : prog.State) (order : left.start ≤ left.end) (within : left.end ≤ length input) where
    abbrev bytes : List ℕ
    bytes = bytes_left left input

    size_is : length bytes ≡ left.end - left.start
    size_is = length-drop left.start (take left.end input) ∙ ap (λ (n : ℕ). n - left.start) (length-take-le left.end input within)

    -- the line that ends there: none is complete, or it is the first of what is left
    module _ (end : ℕ) (ends : end ≡ end_from (take left.end input) left.start) where
      none-complete : left.end ≤ end → NoLf bytes
      none-complete h = let m = at_most bytes in omega (arith, h, ends, m, size_is, order)

      complete : end < left.end → line_length bytes < length bytes
      complete h = omega (arith, h, ends, size_is)

      -- its bytes, as a part of the buffer
      pub line-is : end < left.end → take (end - left.start) (drop left.start input) ≡ take (line_length bytes) bytes
      line-is h =
          let n : end - left.start ≡ line_length bytes = omega (arith, ends) in
          let size : left.start + (left.end - left.start) ≡ left.end = omega (arith, order) in
          let part : bytes ≡ take (left.end - left.start) (drop left.start input) =
          ap (λ (k : ℕ). drop left.start (take k input)) (sym size) ∙ ap (λ (x : List ℕ). drop left.start x) (take-add left.start (left.end - left.start) input)
          ∙ drop_at (take left.start input) (take (left.end - left.start) (drop left.start input)) left.start (length-take-le left.start input (omega (arith, order, within))) in
          let c = complete h in
          rw n (sym (ap (λ (x : List ℕ). take (line_length bytes) x) part ∙ take-take (line_length bytes) (left.end - left.start) (drop left.start input) (omega (arith, c, size_is))))

      past-it : end < left.end → bytes_left (past_of left (end - left.start + 1)) input ≡ drop (line_length bytes + 1) bytes
      past-it h =
          let n : end - left.start + 1 ≡ line_length bytes + 1 = omega (arith, ends) in
          let c = complete h in
          let on : min (left.start + (line_length bytes + 1)) left.end ≡ left.start + (line_length bytes + 1) = omega (arith, c, size_is, order) in
          rw (n, on)
          (sym (drop-drop (line_length bytes + 1) left.start (take left.end input)))

      past_order : end < left.end → (past_of left (end - left.start + 1)).start ≤ left.end
      past_order h = omega (arith, h, ends)

      module _ {turns : ℕ} (t : Traced prog before now s bytes (last_of left) turns) (h : end < left.end) (l : List ℕ) (is : l ≡ take (end - left.start) (drop left.start input))
          (text : List ℕ) (says : SaysLine prog s (prog.reads l) text) where
        whole-line : l ≡ take (line_length bytes) bytes
        whole-line = is ∙ line-is h

        said-so : SaysLine prog s (prog.reads (take (line_length bytes) bytes)) text
        said-so = subst (λ (x : List ℕ). SaysLine prog s (prog.reads x) text) whole-line says

        pub turn-goes : (holds : Option (List ℕ)) → Appends now.holds holds text → (p : prog.State) → p ≡ after_line prog s (prog.reads l)
            → ((past_of left (end - left.start + 1)).start ≤ left.end) × Traced prog before (streams now.left holds) p (bytes_left (past_of left (end - left.start + 1)) input) (last_of left) (turns + 1)
        turn-goes holds a p e =
            let e' : p ≡ after_line prog s (prog.reads (take (line_length bytes) bytes)) = e ∙ ap (λ (x : List ℕ). after_line prog s (prog.reads x)) whole-line in
            (past_order h, rw (e', past-it h) (traced-line before now s bytes (last_of left) t (complete h) text said-so holds a))

        pub turn-due : (holds : Option (List ℕ)) (n : ℕ) → Appends now.holds holds (take n text) → Begun prog before (streams now.left holds) text n
        turn-due holds n a = line-due before now s bytes (last_of left) t (complete h) text said-so holds n a

      module _ {turns : ℕ} (t : Traced prog before now s bytes (last_of left) turns) (h : left.end ≤ end) where
        pub turn-ends : last_of left ≡ true → (text : List ℕ) → prog.Closes s text → (holds : Option (List ℕ)) → Appends now.holds holds text
            → Whole prog before (streams now.left holds)
        turn-ends over text closes holds a = traced_ends before now s bytes (last_of left) t over (none-complete h) text closes holds a

        pub end-due : last_of left ≡ true → (text : List ℕ) → prog.Closes s text → (holds : Option (List ℕ)) (n : ℕ) → Appends now.holds holds (take n text)
            → Begun prog before (streams now.left holds) text n
        end-due over text closes holds n a = traced-end-due before now s bytes (last_of left) t over (none-complete h) text closes holds n a

        -- how the program ends, by what the last step answers
        pub turn-finished : last_of left ≡ true → (EndSeen left → IsAtEnd now.left) → (holds : Option (List ℕ)) (r : Ended) → Finished prog s left now.holds holds r
            → EndsSo prog before (streams now.left holds) r
        turn-finished over done holds (Input l) f =
            (ap last_of f.0 ∙ over, λ e. done (sym (ap (λ (x : Left). x.over) f.0) ∙ e), turn-ends over f.1.0 f.1.1 holds f.1.2)
        turn-finished over done holds (Output taken) f = (f.0, end-due over f.0.due f.1 holds taken.taken f.2)
        turn-finished over done holds (Turns turns) f = absurd f

        pub turn-reads : last_of left ≡ false → kept_bytes < length input → (r : Left) (after : List ℕ) → Refilled left input r after
            → (reads : Option (List ℕ)) → Drawn now.left reads (take kept_bytes bytes) r after
            → (length after ≡ length input) × (r.start ≤ r.end) × (r.end ≤ length after) × Traced prog before (streams reads now.holds) s (bytes_left r after) (last_of r) (turns + 1)
        turn-reads more big r after g reads d =
            let f = g.filled big in (
              g.same_length,
              f.order,
              f.within,
              traced_more before now s bytes (subst (λ (x : Bool). Traced prog before now s bytes x turns) more t) (none-complete h) r after f reads d,
            )
