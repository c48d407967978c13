-- No pairing has more pairs: an entry that no window holds can be left out, and where the earliest verdict and the earliest
-- signal fit each other, any pairing has at most one pair more than some pairing of the rest. Assumes nothing.
use mathlib.Core.Path.{◌≡◌, refl, sym, ap, ◌∙◌}
use mathlib.Core.List.{List, [], ◌∷◌}
use mathlib.Core.Logic.{◌≢◌, ◌⊎◌, inl, inr, ⊎_elim}
use Prim.Native.Nat.{ℕ, suc, ◌+◌, ◌≤◌, ◌<◌}
use native.Mathlib.Decide.{ℕ_discrete}
use native.Mathlib.Omega.{arith}
use lib.ListN.{length}
use Rattle.pairing.specs.Pairing.{Pair, Every, none, more, Fits, Apart, Once, Pairing}
use Rattle.pairing.proofs.Entries.{first, rest as later, every_map, every-both, every_in, fits_in, stands-behind, stands-none}

-- ---- the pair with a given verdict, or a given signal, taken out of a pairing

record Pulled (R : Pair → Type 0) (f : Pair → ℕ) (x : ℕ) (ps : List Pair) : Type 0 where
  found : Pair
  rest : List Pair
  hit : f found ≡ x
  good : R found
  each : Every (λ q. R q × Apart found q) rest
  once : Once rest
  size : length ps ≡ suc (length rest)

pull : (R : Pair → Type 0) (f : Pair → ℕ) (x : ℕ) (ps : List Pair) → Every R ps → Once ps → Every (λ p. R p × (f p ≢ x)) ps ⊎ Pulled R f x ps
pull R f x [] e o = inl none
pull R f x (p ∷ ps) e o =
    elim (ℕ_discrete (f p) x) [
      | yes h ↦ inr (record { found = p; rest = ps; hit = h; good = first e; each = every-both (later e) o.0; once = o.1; size = refl })
      | no n ↦
          ⊎_elim
          (λ all. inl (more (first e, n) (every_map (λ q g. (g.0.0, g.1)) all)))
          (λ w.
          inr
          (record {
            found = w.found;
            rest = p ∷ w.rest;
            hit = w.hit;
            good = w.good.0;
            each = more (first e, (λ s. w.good.1.0 (sym s), λ s. w.good.1.1 (sym s))) (every_map (λ q g. (g.0.0, g.1)) w.each);
            once = (every_map (λ q g. g.0.1) w.each, w.once);
            size = ap suc w.size;
          }))
          (pull (λ q. R q × Apart p q) f x ps (every-both (later e) o.0) o.1)
    ]

-- ---- how many pairs a pairing can have

abbrev pub AtMost : List ℕ → List ℕ → ℕ → ℕ → ℕ → Type 0
AtMost vs ts a b n = (qs : List Pair) → Pairing vs ts a b qs → length qs ≤ n

pub none-without-verdicts : (ts : List ℕ) (a b : ℕ) → AtMost [] ts a b 0
none-without-verdicts ts a b [] p = omega arith
none-without-verdicts ts a b (q ∷ qs) p = stands-none q.verdict (first p.each).verdict_in

pub none-without-signals : (vs : List ℕ) (a b : ℕ) → AtMost vs [] a b 0
none-without-signals vs a b [] p = omega arith
none-without-signals vs a b (q ∷ qs) p = stands-none q.signal (first p.each).signal_in

module _ (vs ts : List ℕ) (a b n : ℕ) where
  -- a signal that is too early for every verdict
  pub without-signal : (t : ℕ) → Every (λ v. t < v + a) vs → AtMost vs ts a b n → AtMost vs (t ∷ ts) a b n
  without-signal t e best qs p = best qs (record { each = every_map fits p.each; once = p.once })
    where
      fits : (q : Pair) → Fits vs (t ∷ ts) a b q → Fits vs ts a b q
      fits q f =
          let l = every_in q.verdict e f.verdict_in in
          fits_in q f f.verdict_in (stands-behind q.signal t ts f.signal_in (λ s. omega (arith, f.from)))

  -- a verdict for which every signal is too late
  pub without-verdict : (v : ℕ) → Every (λ t. v + b < t) ts → AtMost vs ts a b n → AtMost (v ∷ vs) ts a b n
  without-verdict v e best qs p = best qs (record { each = every_map fits p.each; once = p.once })
    where
      fits : (q : Pair) → Fits (v ∷ vs) ts a b q → Fits vs ts a b q
      fits q f =
          let l = every_in q.signal e f.signal_in in
          fits_in q f (stands-behind q.verdict v vs f.verdict_in (λ s. omega (arith, f.upto))) f.signal_in

-- ---- the exchange

module _ (v t : ℕ) (vs ts : List ℕ) (a b : ℕ) where
  abbrev All : Pair → Type 0
  All = Fits (v ∷ vs) (t ∷ ts) a b

  -- a pairing in which neither is, is one of the rest
  without_both : {qs : List Pair} → Every (λ q. All q × (q.verdict ≢ v) × (q.signal ≢ t)) qs → Once qs → Pairing vs ts a b qs
  without_both e o = record { each = every_map rests e; once = o }
    where
      rests : (q : Pair) → All q × (q.verdict ≢ v) × (q.signal ≢ t) → Fits vs ts a b q
      rests q g = fits_in q g.0 (stands-behind q.verdict v vs g.0.verdict_in g.1) (stands-behind q.signal t ts g.0.signal_in g.2)

  record Smaller (qs : List Pair) : Type 0 where
    few : List Pair
    pairing : Pairing vs ts a b few
    size : length qs ≤ suc (length few)

  -- the verdict is in no pair: leave out the signal's
  free : (qs : List Pair) → Every (λ q. All q × (q.verdict ≢ v)) qs → Once qs → Smaller qs
  free qs e o =
      ⊎_elim
      (λ all. record { few = qs; pairing = without_both (every_map (λ q g. (g.0.0, g.0.1, g.1)) all) o; size = omega arith })
      (λ w. record {
        few = w.rest;
        pairing = without_both (every_map (λ q g. (g.0.0, g.0.1, λ s. g.1.1 (w.hit ∙ sym s))) w.each) w.once;
        size = omega (arith, w.size);
      })
      (pull (λ q. All q × (q.verdict ≢ v)) (λ q. q.signal) t qs e o)

  -- the verdict is in the pair w: leave it out, and give its signal to the verdict that had t
  module _ (from : v + a ≤ t) (upto : t ≤ v + b) (later-v : Every (λ x. v < x) vs) (later-t : Every (λ y. t < y) ts) where
    taken : (qs : List Pair) → Pulled All (λ q. q.verdict) v qs → Smaller qs
    taken qs w =
        ⊎_elim
        (λ all. record {
          few = w.rest;
          pairing = without_both (every_map (λ q g. (g.0.0, λ s. g.0.1.0 (w.hit ∙ sym s), g.1)) all) w.once;
          size = omega (arith, w.size);
        })
        (λ u.
        let verdict_in = stands-behind u.found.verdict v vs u.good.0.verdict_in (λ s. u.good.1.0 (w.hit ∙ sym s)) in
        let signal_in = stands-behind w.found.signal t ts w.good.signal_in (λ s. u.good.1.1 (s ∙ sym u.hit)) in
        let lv = every_in u.found.verdict later-v verdict_in in
        let lt = every_in w.found.signal later-t signal_in in
        let rest = without_both (every_map (λ q g. (g.0.0, λ s. g.0.1.0 (w.hit ∙ sym s), λ s. g.1.1 (u.hit ∙ sym s))) u.each) u.once in
        record {
          few = record { verdict = u.found.verdict; signal = w.found.signal } ∷ u.rest;
          pairing = record {
            each =
                more
                (record { verdict_in = verdict_in; signal_in = signal_in; from = omega (arith, u.good.0.from, u.hit); upto = omega (arith, w.good.upto, w.hit) })
                rest.each;
            once = (every_map (λ q g. (g.1.0, g.0.1.1)) u.each, u.once);
          };
          size = omega (arith, w.size, u.size);
        })
        (pull (λ q. All q × Apart w.found q) (λ q. q.signal) t w.rest w.each w.once)

    pub with_pair : (n : ℕ) → AtMost vs ts a b n → AtMost (v ∷ vs) (t ∷ ts) a b (suc n)
    with_pair n best qs p =
        let s = ⊎_elim (λ all. free qs all p.once) (λ w. taken qs w) (pull All (λ q. q.verdict) v qs p.each p.once) in
        omega (arith, s.size, best s.few s.pairing)
