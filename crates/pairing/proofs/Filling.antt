-- The loop that fills the buffer: what was done so far, followed by a sweep of the rest, is a sweep of the whole. Assumes nothing.
use mathlib.Core.Path.{◌≡◌, refl, sym, ap, ◌∙◌}
use mathlib.Core.List.{List, [], ◌∷◌, ◌++◌, append_assoc, append-nil}
use Prim.Native.Nat.{ℕ, suc, ◌+◌, ◌*◌, ◌≤◌, ◌<◌}
use native.Mathlib.Omega.{arith}
use lib.ListN.{length, get_or, drop, set, length-append, length-set, drop_of_length-le}
use lib.Seq.{lt-length-set, drop-cons, set_at, append_snoc}
use Rattle.lists.proofs.Past.{cut}
use Rattle.pairing.proofs.Entries.{tick_fits}
use Rattle.pairing.specs.Pairing.{Pair, flat}
use Rattle.pairing.specs.Sweep.{Sweep, no_verdict, no_signal, early, late, pair, Filled}

length_flat : (ps : List Pair) → length (flat ps) ≡ 2 * length ps
length_flat [] = refl
length_flat (p ∷ ps) = omega (arith, length_flat ps)

flat_snoc : (ps : List Pair) (p : Pair) (l : List ℕ) → flat (ps ++ (p ∷ [])) ++ l ≡ flat ps ++ (p.verdict ∷ p.signal ∷ l)
flat_snoc [] p l = refl
flat_snoc (q ∷ ps) p l = ap (λ (x : List ℕ). q.verdict ∷ q.signal ∷ x) (flat_snoc ps p l)

-- two stores side by side, behind a front
stores : (l r : List ℕ) (p q x y : ℕ) → set (set (l ++ (p ∷ q ∷ r)) (length l) x) (suc (length l)) y ≡ l ++ (x ∷ y ∷ r)
stores [] r p q x y = refl
stores (z ∷ l) r p q x y = ap (λ (k : List ℕ). z ∷ k) (stores l r p q x y)

set_two : (l before : List ℕ) (x y : ℕ) → suc (length l) < length before → set (set (l ++ drop (length l) before) (length l) x) (suc (length l)) y ≡ l ++ (x ∷ y ∷ drop (suc (suc (length l))) before)
set_two l before x y h = rw (drop-cons before (length l) 0 (omega arith), drop-cons before (suc (length l)) 0 (omega arith)) (stores l _ _ _ x y)

-- the buffer holds k pairs, and behind them what it held
pub record Held (before after : List ℕ) (k : ℕ) : Type 0 where
  pub same : length after ≡ length before
  pub done : List Pair
  pub counted : length done ≡ k
  pub written : after ≡ flat done ++ drop (2 * k) before

pub record Going (vs ts : List ℕ) (a b : ℕ) (before after : List ℕ) (i j k : ℕ) : Type 0 where
  pub inside : i ≤ length vs
  pub room : k ≤ i
  pub held : Held before after k
  pub sweep : (ps : List Pair) → Sweep a b (drop i vs) (drop j ts) ps → Sweep a b vs ts (held.done ++ ps)

pub going_start : (vs ts : List ℕ) (a b : ℕ) (before : List ℕ) → Going vs ts a b before before 0 0 0
going_start vs ts a b before =
    record { inside = omega arith; room = omega arith; held = record { same = refl; done = []; counted = refl; written = refl }; sweep = λ ps r. r }

module _ {vs ts : List ℕ} {a b : ℕ} {before after : List ℕ} {i j k : ℕ} (g : Going vs ts a b before after i j k) where
  -- no verdict is left, or no signal
  filled : Sweep a b (drop i vs) (drop j ts) [] → Filled vs ts a b before after k
  filled r =
      record { pairs = g.held.done; sweep = rw append-nil at (g.sweep [] r); counted = sym g.held.counted; written = rw g.held.counted g.held.written }

  pub done-verdicts : length vs ≤ i → Filled vs ts a b before after k
  done-verdicts h = filled (rw (drop_of_length-le vs h) no_verdict)

  pub done-signals : length ts ≤ j → Filled vs ts a b before after k
  done-signals h = filled (rw (drop_of_length-le ts h) no_signal)

  module _ (hi : i < length vs) (hj : j < length ts) where
    abbrev v : ℕ
    v = get_or vs i 0

    abbrev t : ℕ
    t = get_or ts j 0

    -- the earliest verdict left and the earliest signal left
    verdict-is : drop i vs ≡ v ∷ drop (i + 1) vs
    verdict-is = cut vs i hi

    signal-is : drop j ts ≡ t ∷ drop (j + 1) ts
    signal-is = cut ts j hj

    pub going-early : t < v + a → Going vs ts a b before after i (j + 1) k
    going-early h =
        record {
          inside = g.inside;
          room = g.room;
          held = g.held;
          sweep = λ ps r. g.sweep ps (rw (signal-is, verdict-is) (early h (rw verdict-is at r)));
        }

    pub going-late : v + b < t → Going vs ts a b before after (i + 1) j k
    going-late h =
        record {
          inside = omega arith;
          room = omega (arith, g.room);
          held = g.held;
          sweep = λ ps r. g.sweep ps (rw (signal-is, verdict-is) (late h (rw signal-is at r)));
        }

    abbrev p : Pair
    p = record { verdict = v; signal = t }

    abbrev both : List ℕ
    both = set (set after (2 * k) v) (2 * k + 1) t

    both_set : 2 * length vs ≤ length before → both ≡ flat g.held.done ++ (v ∷ t ∷ drop (2 * (k + 1)) before)
    both_set wide =
        let n : 2 * k ≡ length (flat g.held.done) = omega (arith, length_flat g.held.done, g.held.counted) in
        let next : 2 * k + 1 ≡ suc (2 * k) = omega arith in
        let past : 2 * (k + 1) ≡ suc (suc (2 * k)) = omega arith in
        rw (g.held.written, next, past, n) (set_two (flat g.held.done) before v t (omega (arith, n, g.room)))

    pub going-pair : v + a ≤ t → t ≤ v + b → 2 * length vs ≤ length before → Going vs ts a b before both (i + 1) (j + 1) (k + 1)
    going-pair h l wide =
        record {
          inside = omega arith;
          room = omega (arith, g.room);
          held = record {
            same = simp length-set g.held.same;
            done = g.held.done ++ (p ∷ []);
            counted = length-append g.held.done (p ∷ []) ∙ omega (arith, g.held.counted);
            written = both_set wide ∙ sym (flat_snoc g.held.done p (drop (2 * (k + 1)) before));
          };
          sweep = λ ps r. rw (append_assoc g.held.done (p ∷ []) ps) (g.sweep (p ∷ ps) (rw (signal-is, verdict-is) (pair h l r)));
        }

pub ruleset filling = (tick_fits, lt-length-set)
