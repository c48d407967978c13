-- What an accepted call knows, and what the filled buffer then is. Assumes nothing.
use mathlib.Core.Path.{◌≡◌}
use mathlib.Core.Bool.{true}
use mathlib.Core.List.{List}
use Prim.Native.Nat.{ℕ, ◌-◌, ◌*◌, ◌≤◌}
use native.Mathlib.Omega.{arith}
use lib.ListN.{length}
use borrow.Author.Tests.{leb-true, ltb-false}
use Rattle.time.specs.Time.{longest}
use Rattle.pairing.specs.Answer.{longest_list, in_order, ticks_fit, refusal_of, Given}
use Rattle.std.specs.Prelude.{None}
use Rattle.pairing.specs.Sweep.{Filled}
use Rattle.pairing.proofs.Entries.{Sorted, sorted}
use Rattle.pairing.proofs.Sweeps.{Good, sweep-good}

pub record Accepted (vs ts : List ℕ) (a b room : ℕ) : Type 0 where
  pub short : length vs ≤ longest_list
  pub verdicts : Sorted vs
  pub signals : Sorted ts
  pub ticks : ticks_fit vs ≡ true
  pub window : a ≤ b
  pub narrow : b ≤ longest
  pub wide : 2 * length vs ≤ room

pub accepted : (vs ts : List ℕ) (a b room : ℕ) → refusal_of vs ts a b room ≡ None → Accepted vs ts a b room
unfolding refusal_of in_order
accepted vs ts a b room e =
    record {
      short = grind (arith, leb-true);
      verdicts = sorted vs (grind arith);
      signals = sorted ts (grind arith);
      ticks = grind arith;
      window = grind (arith, leb-true);
      narrow = grind (arith, leb-true);
      wide = grind (arith, ltb-false);
    }

module _ {vs ts : List ℕ} {a b room : ℕ} {before after : List ℕ} {k : ℕ} (h : Accepted vs ts a b room) (f : Filled vs ts a b before after k) where
  good : Good a b vs ts f.pairs
  good = sweep-good f.sweep h.verdicts h.signals

  pub few-verdicts : k ≤ length vs
  few-verdicts = omega (arith, f.counted, good.verdicts_add)

  pub few-signals : k ≤ length ts
  few-signals = omega (arith, f.counted, good.signals_add)

  pub given : Given vs ts a b before after (record { pairs = k; missing = length vs - k; extra = length ts - k })
  given =
      record {
        pairs = f.pairs;
        largest = good.largest;
        counted = record {
          paired = f.counted;
          missing = omega (arith, f.counted, good.verdicts_add);
          extra = omega (arith, f.counted, good.signals_add);
          verdicts_add = omega (arith, few-verdicts);
          signals_add = omega (arith, few-signals);
        };
        written = f.written;
      }
