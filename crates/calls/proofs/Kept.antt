-- A list in the first places of a memory, with one more; and a text at the front of the output. Assumes nothing.
use mathlib.Core.Path.{◌≡◌, refl, ap, ◌∙◌}
use mathlib.Core.List.{List, ◌++◌}
use Prim.Native.Nat.{ℕ, suc, ◌+◌, ◌≤◌}
use native.Mathlib.Omega.{arith}
use native.Mathlib.Numerals.{add-one}
use lib.ListN.{length, take, drop, set, length-append, length-set}
use lib.Seq.{take_at, take-suc-set, length-take-le}
use lib.Dec.{ltb}
use borrow.Author.Tests.{le-leb, ltb-true}
use Rattle.laws.proofs.Tests.{by_cases}
use Rattle.print.specs.Written.{length_written, buffer_after}
use Rattle.calls.specs.Kept.{noted, Noted}

module _ {A : Type 0} (l : List A) (count : ℕ) (x : A) (k : List A) (n : ℕ) (j : Noted l count x k n) where
  pub same_length : length k ≡ length l
  same_length =
      by_cases (ltb count (length l))
      (λ y. ap length j.memory ∙ rw y (length-set l count x))
      (λ y. ap length j.memory ∙ rw y refl)

  pub still_within : count ≤ length l → n ≤ length l
  still_within h =
      by_cases (ltb count (length l))
      (λ y. let e : n ≡ count + 1 = j.counted ∙ rw y refl in let less = ltb-true count (length l) y in omega (arith, e, less))
      (λ y. let e : n ≡ count = j.counted ∙ rw y refl in omega (arith, e, h))

  -- the list with it
  pub joined : (places : ℕ) → length l ≡ places → count ≤ places → take n k ≡ noted places (take count l) x
  joined places e h =
      let size : length (take count l) ≡ count = length-take-le count l (omega (arith, e, h)) in
      by_cases (ltb count (length l))
      (λ y.
      let less = ltb-true count (length l) y in
      let at : n ≡ suc count = j.counted ∙ rw y (add-one count) in
      let is : k ≡ set l count x = j.memory ∙ rw y refl in
      rw (size, ← e, y, is, at) (take-suc-set l count x less))
      (λ y.
      let at : n ≡ count = j.counted ∙ rw y refl in
      let is : k ≡ l = j.memory ∙ rw y refl in
      rw (size, ← e, y, is, at) refl)

pub at_front : (room : ℕ) (text b b' : List ℕ) (r : ℕ) → room ≤ length b → r ≡ length_written room text b → b' ≡ buffer_after room text b
    → (r ≤ length b') × (take r b' ≡ text)
at_front room text b b' r h e f =
    let size : r ≡ length text = e ∙ rw (le-leb room (length b) h) refl in
    let is : b' ≡ text ++ drop (length text) b = f ∙ rw (le-leb room (length b) h) refl in
    let whole = ap length is ∙ length-append text (drop (length text) b) in
    (omega (arith, size, whole), rw (is, size) (take_at text (drop (length text) b) (length text) refl))
