-- `joined`: the waits are copied, then the new one is put behind them. Assumes nothing.
use borrow.Author.Tests.{not-false}
use mathlib.Core.Bool.{Bool, true, false, ◌||◌, not}
use mathlib.Core.List.{List, [], ◌∷◌, ◌++◌}
use mathlib.Core.Path.{◌≡◌, refl, sym, ◌∙◌}
use Prim.Native.Nat.{ℕ, ◌+◌, ◌<◌}
use native.Mathlib.Omega.{arith}
use lib.ListN.{length, set, take, drop, replicate, length-append}
use lib.Seq.{length-take-le}
use Rattle.std.proofs.lemmas.List.{drop-replicate}
use Rattle.laws.proofs.Tests.{neither}
use Rattle.lists.proofs.Places.{put_last}
use Rattle.time.specs.Time.{is_time}
use Rattle.queue.specs.Queue.{places, waits_of, laid, is_full, joined}
use Rattle.queue.specs.declared.Queue.{Queue}
use Rattle.queue.proofs.Waits.{one_fits}
use Rattle.queue.proofs.Queue.joined.Goals as goal

pub returns-then-is_full-is_time : goal.returns-then-is_full-is_time
unfolding joined
returns-then-is_full-is_time c =
    let no : is_full c.args.self || not (is_time c.args.ts) ≡ true = rw (c.is_full.ensures, c.is_time.ensures) at c.if-is_full-is_time.true in
    rw no

-- what is taken has its room
room : (q : Queue) (w : List ℕ) (full other : Bool) → w ≡ waits_of q → full ≡ is_full q → full || other ≡ false → length w < places
room q w full other t e h = rw t (one_fits q (sym e ∙ (neither full other h).0))

pub slice_bounds-all-end : goal.slice_bounds-all-end
slice_bounds-all-end c = omega (arith, room c.args.self c.taken-waits.result.now _ _ c.taken-waits.ensures c.is_full.ensures c.if-is_full-is_time.false)

front : (n : ℕ) → n < places → n ≡ length (take n (replicate {A = ℕ} places 0))
front n h = sym (length-take-le n (replicate {A = ℕ} places 0) (omega arith))

pub slice_bounds-copy_from_slice-end : goal.slice_bounds-copy_from_slice-end
slice_bounds-copy_from_slice-end c = front _ (room c.args.self c.taken-waits.result.now _ _ c.taken-waits.ensures c.is_full.ensures c.if-is_full-is_time.false)

pub copy_from_slice-requires : goal.copy_from_slice-requires
copy_from_slice-requires c = sym (front _ (room c.args.self c.taken-waits.result.now _ _ c.taken-waits.ensures c.is_full.ensures c.if-is_full-is_time.false))

pub bounds-all-n : goal.bounds-all-n
bounds-all-n c = room c.args.self c.taken-waits.result.now _ _ c.taken-waits.ensures c.is_full.ensures c.if-is_full-is_time.false

-- the waits laid, with one put behind them
one_more : (q : Queue) (w : List ℕ) (ts : ℕ) → w ≡ waits_of q → is_full q ≡ false → is_time ts ≡ true
    → ◌≡◌ {A = Queue} (record { waits = set (w ++ drop (length w) (replicate places 0)) (length w) ts; n = length w + 1 }) (joined q ts)
unfolding joined laid
one_more q w ts e f t =
    let more : length w + 1 ≡ length (w ++ ts ∷ []) = omega (arith, length-append w (ts ∷ [])) in
    let few : length w < places = rw e (one_fits q f) in
    rw (f, t, drop-replicate {X = ℕ} (length w) places 0, ← e, put_last places 0 w (length w) ts refl few, more)

pub returns : goal.returns
returns c =
    let a = c.args in
    let e = neither c.is_full.result _ c.if-is_full-is_time.false in
    let time : is_time a.ts ≡ true = sym c.is_time.ensures ∙ not-false _ e.1 in
    rw c.copy_from_slice.ensures.after (one_more a.self c.taken-waits.result.now a.ts c.taken-waits.ensures (sym c.is_full.ensures ∙ e.0) time)
