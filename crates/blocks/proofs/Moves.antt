-- What is left of a line of text moves to the front of the input. Assumes nothing.
use mathlib.Core.Path.{◌≡◌, sym, ap, ◌∙◌}
use mathlib.Core.List.{List}
use Prim.Native.Nat.{ℕ, ◌+◌, ◌-◌, min}
use native.Mathlib.Omega.{arith}
use lib.ListN.{length, take, drop, length-drop}
use lib.Seq.{paste, take-take, length-take-le}
use Rattle.std.proofs.lemmas.List.{drop-take, drop_min, take_min}
use Rattle.std.proofs.lemmas.List.Edits.{length-paste, take-paste}
use Rattle.std.specs.List.{copy_within}
use Rattle.blocks.specs.Left.{kept_bytes}

module _ (input : List ℕ) (start end : ℕ) where
  abbrev last : ℕ
  last = min end (length input)

  abbrev first : ℕ
  first = min start last

  abbrev n : ℕ
  n = min (last - first) kept_bytes

  rest : length (drop first input) ≡ length input - first
  rest = length-drop first input

  -- the bytes from start to end, of which as many are kept
  left-is : drop start (take end input) ≡ take (last - first) (drop first input)
  left-is =
      let size : length (take last input) ≡ last = length-take-le last input (omega arith) in
      let all : first + (last - first) ≡ last = omega arith in
      ap (drop start) (sym (take_min end input)) ∙ sym (drop_min start (take last input))
      ∙ ap (λ (k : ℕ). drop (min start k) (take last input)) size
      ∙ ap (λ (k : ℕ). drop first (take k input)) (sym all) ∙ drop-take first (last - first) input

  kept-is : take kept_bytes (drop start (take end input)) ≡ take n (drop first input)
  kept-is =
      let size : length (take (last - first) (drop first input)) ≡ last - first = length-take-le (last - first) (drop first input) (omega (arith, rest)) in
      let some : min kept_bytes (last - first) ≡ n = omega arith in
      ap (take kept_bytes) left-is ∙ sym (take_min kept_bytes (take (last - first) (drop first input)))
      ∙ ap (λ (k : ℕ). take (min kept_bytes k) (take (last - first) (drop first input))) size
      ∙ ap (λ (k : ℕ). take k (take (last - first) (drop first input))) some
      ∙ take-take n (last - first) (drop first input) (omega arith)

  pub moved_same : length (copy_within input first (first + n) 0) ≡ length input
  moved_same = length-paste input 0 (drop first input) (first + n - first) (omega arith) (omega (arith, rest))

  pub moved_front : take n (copy_within input first (first + n) 0) ≡ take kept_bytes (drop start (take end input))
  moved_front =
      let count : first + n - first ≡ n = omega arith in
      let front : take (0 + n) (paste input 0 (drop first input) n) ≡ take n (drop first input) = take-paste input 0 (drop first input) n (omega arith) (omega (arith, rest)) in
      let here : 0 + n ≡ n = omega arith in
      rw (count, kept-is) (ap (λ (k : ℕ). take k (paste input 0 (drop first input) n)) (sym here) ∙ front)
