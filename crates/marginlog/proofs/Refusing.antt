-- The refusal of a call with its code, and the line that a call prints. Assumes nothing.
use mathlib.Core.Path.{◌≡◌}
use mathlib.Core.Bool.{true, false, ◌&&◌, not}
use mathlib.Core.List.{List}
use Prim.Native.Nat.{ℕ}
use lib.IntN.{ℤ}
use lib.ListN.{length}
use Rattle.laws.proofs.Tests.{both, by_cases}
use Rattle.settings.specs.Settings.{is_code}
use Rattle.settings.specs.declared.Settings.{Settings}
use Rattle.std.specs.Prelude.{None, Some}
use Rattle.possible.specs.declared.Refusal.{Refusal}
use Rattle.possible.specs.declared.Refusal.TheVariants.{Value}
use Rattle.print.specs.Reply.{refused_text, reply_room}
use Rattle.print.specs.Written.{length_written, buffer_after}
use Rattle.possible.specs.Answer.{count_fits, number_of, refusal_of, IsSet}
use Rattle.marginlog.specs.Lines.{outcomes_text, refusal_at, possible, refused, Printed}

module _ (xs : List ℤ) (e code : ℕ) (s : Settings) where
  -- so many samples are a call's, and the code is out of range
  pub code-refused : count_fits (length xs) && not (is_code code) ≡ true → refusal_at xs e code s ≡ Some Value
  unfolding refusal_at
  code-refused h =
      let b = both (count_fits (length xs)) (not (is_code code)) h in
      rw (b.0, b.1)

  -- else it is the call's own
  pub as_the_call : count_fits (length xs) && not (is_code code) ≡ false → refusal_at xs e code s ≡ refusal_of xs e s
  unfolding refusal_at refusal_of
  as_the_call h =
      by_cases (count_fits (length xs))
      (λ y. let n : not (is_code code) ≡ false = rw y at h in rw (y, n))
      (λ n. rw n)

  -- what the line of a refusal is, by the answer
  pub refused-line : (r : Refusal) → refusal_at xs e code s ≡ Some r → (out out' : List ℕ) (m : ℕ)
      → (m ≡ length_written reply_room (refused_text (number_of r) 0) out) × (out' ≡ buffer_after reply_room (refused_text (number_of r) 0) out) → Printed xs e code s out out' m
  refused-line r is out out' m w = record { text = refused_text (number_of r) 0; prints = refused is; end = w.0; output = w.1 }

  pub possible-line : (mask : ℕ) → refusal_at xs e code s ≡ None → IsSet s e xs mask → (out out' : List ℕ) (m : ℕ)
      → (m ≡ length_written reply_room (outcomes_text mask) out) × (out' ≡ buffer_after reply_room (outcomes_text mask) out) → Printed xs e code s out out' m
  possible-line mask free set out out' m w = record { text = outcomes_text mask; prints = possible mask free set; end = w.0; output = w.1 }
