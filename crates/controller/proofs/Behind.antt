-- A text written to the part of a buffer behind its first n bytes, seen from the whole buffer. Assumes nothing.
--     behind          the part, put back, is the text behind the first bytes
--     ends, writes    a printer that asks for no more room than there is writes all of its text
--     fits            what is written lies within the buffer
use Prim.Native.Nat.{ℕ, ◌+◌, ◌-◌, ◌≤◌}
use native.Mathlib.Omega.{arith}
use mathlib.Core.Bool.{true}
use mathlib.Core.List.{List, [], ◌++◌, append-nil}
use mathlib.Core.Path.{◌≡◌, ◌∙◌, ap}
use lib.Dec.{leb}
use lib.ListN.{length, take, drop, drop_of_length-le, length-drop, length-append}
use borrow.Author.Tests.{le-leb}
use borrow.Author.Rules.{part_to_end}
use borrow.Rule.Slice.PartMut.{put_mid}
use Rattle.print.specs.Written.{put_text, buffer_after, length_written}
use Rattle.controller.specs.Answer.{put_at}

module _ (n : ℕ) (text xs : List ℕ) where
  abbrev pub part : List ℕ
  part = take (length xs - n) (drop n xs)

  pub behind : (ys : List ℕ) → ys ≡ put_text text part → put_mid n (length xs - n) xs ys ≡ put_at n text xs
  unfolding put_at
  behind ys put =
      let rest : ys ≡ put_text text (drop n xs) = rw part_to_end at put in
      let gone : drop (length xs - n) (drop n xs) ≡ [] = drop_of_length-le (drop n xs) {i = length xs - n} (rw (length-drop n xs) (omega arith)) in
      rw (gone, append-nil) (ap (λ (l : List ℕ). take n xs ++ l) rest)

  module _ (room : ℕ) (free : n + room ≤ length xs) where
    has : leb room (length part) ≡ true
    has = let k = length-drop n xs in let p = ap length (part_to_end xs n) in le-leb room (length part) (omega (arith, k, p, free))

    pub ends : (r : ℕ) → r ≡ length_written room text part → r ≡ length text
    ends r answers = rw has at answers

    pub writes : (ys : List ℕ) → ys ≡ buffer_after room text part → ys ≡ put_text text part
    writes ys leaves = rw has at leaves

    pub fits : (r : ℕ) (ys : List ℕ) → r ≡ length_written room text part → ys ≡ buffer_after room text part → length ys ≡ length part → n + r ≤ length xs
    fits r ys answers leaves same =
        let e = ends r answers in
        let k = length-drop n xs in
        let p = ap length (part_to_end xs n) in
        let m : length ys ≡ length text + length (drop (length text) part) = ap length (writes ys leaves) ∙ length-append text (drop (length text) part) in
        omega (arith, e, k, p, m, same, free)
