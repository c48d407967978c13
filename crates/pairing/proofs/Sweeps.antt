-- A sweep over two rising lists gives a pairing in order, no other has more pairs, and what it leaves over adds up. Assumes nothing.
use mathlib.Core.Path.{◌≡◌}
use mathlib.Core.List.{List, [], ◌∷◌}
use mathlib.Core.Logic.{◌≢◌}
use Prim.Native.Nat.{ℕ, ◌+◌, ◌<◌}
use native.Mathlib.Omega.{arith}
use lib.ListN.{length}
use Rattle.pairing.specs.Pairing.{Pair, none, more, verdicts_of, signals_of, left_over}
use Rattle.pairing.specs.Answer.{Largest}
use Rattle.pairing.specs.Sweep.{Sweep, no_verdict, no_signal, early, late, pair}
use Rattle.pairing.proofs.Entries.{every_map, every-both, every_in, every_of, fits_in, stands-first, stands_later, Sorted, left-all, left-none, left-more, left_used}
use Rattle.pairing.proofs.Exchange.{none-without-verdicts, none-without-signals, without-signal, without-verdict, with_pair}

pub record Good (a b : ℕ) (vs ts : List ℕ) (ps : List Pair) : Type 0 where
  pub largest : Largest vs ts a b ps
  pub verdicts_add : length vs ≡ length ps + left_over (verdicts_of ps) vs
  pub signals_add : length ts ≡ length ps + left_over (signals_of ps) ts

pub sweep-good : {a b : ℕ} {vs ts : List ℕ} {ps : List Pair} → Sweep a b vs ts ps → Sorted vs → Sorted ts → Good a b vs ts ps
sweep-good {a} {b} (no_verdict {ts = ts}) s r =
    record {
      largest = record { pairing = record { each = none; once = tt }; largest = none-without-verdicts ts a b; ordered = tt };
      verdicts_add = omega (arith, left-none []);
      signals_add = omega (arith, left-all ts);
    }
sweep-good {a} {b} (no_signal {vs = vs}) s r =
    record {
      largest = record { pairing = record { each = none; once = tt }; largest = none-without-signals vs a b; ordered = tt };
      verdicts_add = omega (arith, left-all vs);
      signals_add = omega (arith, left-none []);
    }
sweep-good {a} {b} (early {v = v} {t = t} {vs = vs} {ts = ts} {ps = ps} h d) s r =
    let g = sweep-good d s r.1 in
    let p = g.largest.pairing in
    let away = every_map {Q = λ q. t ≢ q.signal} (λ q f e. omega (arith, every_in q.signal r.0 f.signal_in)) p.each in
    record {
      largest = record {
        pairing = record { each = every_map (λ q f. fits_in q f f.verdict_in (stands_later q.signal t ts f.signal_in)) p.each; once = p.once };
        largest = without-signal (v ∷ vs) ts a b (length ps) t (more h (every_map (λ x l. omega arith) s.0)) g.largest.largest;
        ordered = g.largest.ordered;
      };
      verdicts_add = g.verdicts_add;
      signals_add = omega (arith, g.signals_add, left-more t (signals_of ps) ts (every_of (λ (q : Pair). q.signal) away));
    }
sweep-good {a} {b} (late {v = v} {t = t} {vs = vs} {ts = ts} {ps = ps} h d) s r =
    let g = sweep-good d s.1 r in
    let p = g.largest.pairing in
    let away = every_map {Q = λ q. v ≢ q.verdict} (λ q f e. omega (arith, every_in q.verdict s.0 f.verdict_in)) p.each in
    record {
      largest = record {
        pairing = record { each = every_map (λ q f. fits_in q f (stands_later q.verdict v vs f.verdict_in) f.signal_in) p.each; once = p.once };
        largest = without-verdict vs (t ∷ ts) a b (length ps) v (more h (every_map (λ x l. omega arith) r.0)) g.largest.largest;
        ordered = g.largest.ordered;
      };
      verdicts_add = omega (arith, g.verdicts_add, left-more v (verdicts_of ps) vs (every_of (λ (q : Pair). q.verdict) away));
      signals_add = g.signals_add;
    }
sweep-good {a} {b} (pair {v = v} {t = t} {vs = vs} {ts = ts} {ps = ps} h k d) s r =
    let g = sweep-good d s.1 r.1 in
    let p = g.largest.pairing in
    let after = every_map {Q = λ q. v < q.verdict} (λ q f. every_in q.verdict s.0 f.verdict_in) p.each in
    let behind = every_map {Q = λ q. t < q.signal} (λ q f. every_in q.signal r.0 f.signal_in) p.each in
    record {
      largest = record {
        pairing = record {
          each =
              more
              (record { verdict_in = stands-first v vs; signal_in = stands-first t ts; from = h; upto = k })
              (every_map (λ q f. fits_in q f (stands_later q.verdict v vs f.verdict_in) (stands_later q.signal t ts f.signal_in)) p.each);
          once = (every_map (λ q l. (λ e. omega arith, λ e. omega arith)) (every-both after behind), p.once);
        };
        largest = with_pair v t vs ts a b h k s.0 r.0 (length ps) g.largest.largest;
        ordered = (after, g.largest.ordered);
      };
      verdicts_add = omega (arith, g.verdicts_add, left_used v (verdicts_of ps) vs s.0);
      signals_add = omega (arith, g.signals_add, left_used t (signals_of ps) ts r.0);
    }
