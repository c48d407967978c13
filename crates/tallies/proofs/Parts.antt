-- The lent memory: what was put is read back, other codes' parts stay, zeros are empty parts. Assumes nothing.
use mathlib.Core.Path.{◌≡◌, refl, sym, ap, ◌∙◌}
use mathlib.Core.Bool.{true, ◌&&◌}
use mathlib.Core.List.{List, [], ◌∷◌, ◌++◌, map, append_assoc}
use mathlib.Core.Logic.{◌≢◌}
use Prim.Native.Nat.{ℕ, ◌+◌, ◌-◌, ◌*◌, ◌≤◌, ◌<◌}
use native.Mathlib.Decide.{dec_le}
use native.Mathlib.Omega.{arith}
use lib.Dec.{leb-zero}
use borrow.Author.Tests.{le-leb, eq-eqb}
use lib.IntN.{ℤ, pos, nat_abs}
use lib.Signed.{le_z}
use lib.ListN.{length, take, drop, replicate, length-drop, length-append, length-map, length-replicate, replicate-append-replicate}
use lib.Seq.{take_at, drop_at, length-take-le, take-add, take-take, drop-drop}
use Rattle.laws.proofs.Tests.{both, and_intro}
use Rattle.lists.specs.Each.{all_of}
use Rattle.lists.specs.Counts.{add_up}
use Rattle.tally.specs.Tally.{tally_fit}
use Rattle.part.specs.Part.{part_fit}
use Rattle.part.specs.declared.part.Part.{Part}
use Rattle.part.proofs.Laws.{fit-part}
use Rattle.tallies.specs.Memory.{part_numbers, part, tally_of, part_of, unsigned, numbers_fit, part_at, part_at_fit, lies, fit_at, read_at, with_part, written, zeros, tallies_length}

-- a part is as many numbers as it should be
pub numbers_length : (p : Part) → length p.classes ≡ 21 → length (part_numbers p) ≡ 34
numbers_length p l = simp length-map (omega arith)

module _ (ts : List ℤ) (code : ℕ) (p : Part) (l : length p.classes ≡ 21) (room : code * 34 + 34 ≤ length ts) where
  pub length_with : length (with_part ts code p) ≡ length ts
  unfolding with_part
  length_with =
      rw (
        length-append (take (code * 34) ts) (part_numbers p ++ drop (code * 34 + 34) ts),
        length-append (part_numbers p) (drop (code * 34 + 34) ts),
        numbers_length p l,
        length-take-le (code * 34) ts (omega arith),
        length-drop (code * 34 + 34) ts,
      )
      (omega arith)

  -- what was put is there
  pub part_same : part (with_part ts code p) code ≡ part_numbers p
  unfolding part with_part
  part_same =
      rw (
        drop_at (take (code * 34) ts) (part_numbers p ++ drop (code * 34 + 34) ts) (code * 34) (length-take-le (code * 34) ts (omega arith)),
        take_at (part_numbers p) (drop (code * 34 + 34) ts) 34 (numbers_length p l),
      )

-- the k elements from a on are the last of the first a + k
mid_is : (a k : ℕ) (l : List ℤ) → a ≤ length l → take k (drop a l) ≡ drop a (take (a + k) l)
mid_is a k l h = rw (take-add a k l) (sym (drop_at (take a l) (take k (drop a l)) a (length-take-le a l h)))

module _ (ts : List ℤ) (code other : ℕ) (p : Part) (l : length p.classes ≡ 21) (room : code * 34 + 34 ≤ length ts) where
  part-before : other < code → part (with_part ts code p) other ≡ part ts other
  unfolding part with_part
  part-before o =
      let a = other * 34 in
      let b = code * 34 in
      let q = take b ts ++ (part_numbers p ++ drop (b + 34) ts) in
      let len : length q ≡ length ts = length_with ts code p l room in
      let same : take b q ≡ take b ts = take_at (take b ts) (part_numbers p ++ drop (b + 34) ts) b (length-take-le b ts (omega arith)) in
      let cut : take (a + 34) q ≡ take (a + 34) ts = sym (take-take (a + 34) b q (omega arith)) ∙ ap (take (a + 34)) same ∙ take-take (a + 34) b ts (omega arith) in
      mid_is a 34 q (omega arith) ∙ ap (drop a) cut ∙ sym (mid_is a 34 ts (omega arith))

  part-after : code < other → part (with_part ts code p) other ≡ part ts other
  unfolding part with_part
  part-after o =
      let b = code * 34 in
      let k = other * 34 - (b + 34) in
      let q = take b ts ++ (part_numbers p ++ drop (b + 34) ts) in
      let at : b + 34 + k ≡ other * 34 = omega arith in
      let front : drop (b + 34) q ≡ drop (b + 34) ts =
      ap (λ (x : List ℤ). drop (b + 34) x) (sym (append_assoc (take b ts) (part_numbers p) (drop (b + 34) ts)))
      ∙ drop_at (take b ts ++ part_numbers p) (drop (b + 34) ts) (b + 34) (length-append (take b ts) (part_numbers p) ∙ omega (arith, length-take-le b ts (omega arith), numbers_length p l)) in
      let cut : drop (other * 34) q ≡ drop (other * 34) ts = rw (← at, ← drop-drop k (b + 34) q, ← drop-drop k (b + 34) ts) (ap (drop k) front) in
      ap (take 34) cut

  -- other codes' parts stay
  pub part-other : other ≢ code → part (with_part ts code p) other ≡ part ts other
  part-other d =
      elim (dec_le other code) [
        | yes h ↦ part-before (omega (arith, d))
        | no f ↦ part-after (omega (arith, d))
      ]

-- a part of zeros is zeros
pub part-zeros : (code : ℕ) → code ≤ 99 → part (zeros tallies_length) code ≡ replicate 34 (pos 0)
unfolding part zeros
part-zeros code h =
    let a = code * 34 in
    let rest = 3366 - a in
    let z = pos 0 in
    let all : a + (34 + rest) ≡ 3400 = omega arith in
    let cut : replicate 3400 z ≡ replicate a z ++ (replicate 34 z ++ replicate rest z) =
    rw (replicate-append-replicate 34 rest z, replicate-append-replicate a (34 + rest) z, all) in
    rw (
      cut,
      drop_at (replicate a z) (replicate 34 z ++ replicate rest z) a (length-replicate a z),
      take_at (replicate 34 z) (replicate rest z) 34 (length-replicate 34 z),
    )

-- ---- the same of parts

abs_pos : (l : List ℕ) → map nat_abs (map pos l) ≡ l
abs_pos [] = refl
abs_pos (x ∷ xs) = ap (λ (k : List ℕ). x ∷ k) (abs_pos xs)

none_below : (l : List ℕ) → all_of (le_z (pos 0)) (map pos l) ≡ true
unfolding all_of
none_below [] = refl
none_below (x ∷ xs) = and_intro (leb-zero x) (none_below xs)

pub part_of-numbers : (p : Part) → part_of (part_numbers p) ≡ p
unfolding part_of tally_of
part_of-numbers p = rw (abs_pos p.classes)

numbers-unsigned : (p : Part) → unsigned (part_numbers p) && all_of (le_z (pos 0)) (drop 13 (part_numbers p)) ≡ true
unfolding unsigned
numbers-unsigned p =
    let t = p.tally in
    simp (
      leb-zero t.counts.lolo,
      leb-zero t.counts.lo,
      leb-zero t.counts.ok,
      leb-zero t.counts.hi,
      leb-zero t.counts.hihi,
      leb-zero t.counts.foreign,
      leb-zero t.counts.double,
      leb-zero t.counts.crash,
      leb-zero t.n,
      leb-zero t.squares,
      none_below p.classes,
    )

pub numbers_fit_lem : (p : Part) → part_fit p ≡ true → numbers_fit (part_numbers p) ≡ true
unfolding numbers_fit
numbers_fit_lem p h = rw (numbers-unsigned p, part_of-numbers p) h

module _ (ts : List ℤ) (code : ℕ) (p : Part) (fit : part_fit p ≡ true) (len : length ts ≡ tallies_length) (low : code ≤ 99) where
  count : length p.classes ≡ 21
  count = (fit-part p fit).count

  pub length_kept : length (with_part ts code p) ≡ tallies_length
  length_kept = length_with ts code p count (omega arith) ∙ len

  pub same_numbers : part (with_part ts code p) code ≡ part_numbers p
  same_numbers = part_same ts code p count (omega arith)

  pub fit_same : part_at_fit (with_part ts code p) code ≡ true
  fit_same = rw same_numbers (numbers_fit_lem p fit)

  pub other-numbers : (other : ℕ) → other ≢ code → part (with_part ts code p) other ≡ part ts other
  other-numbers other d = part-other ts code other p count (omega arith) d

pub fit-zeros : (code : ℕ) → code ≤ 99 → part_at_fit (zeros tallies_length) code ≡ true
unfolding numbers_fit unsigned all_of part_of tally_of part_fit tally_fit add_up
fit-zeros code h = rw (part-zeros code h)

pub length_zeros : length (zeros tallies_length) ≡ tallies_length
unfolding zeros
length_zeros = length-replicate 3400 (pos 0)

-- the numbers of a fit part are a fit part
pub held-fit : (ts : List ℤ) (code : ℕ) → part_at_fit ts code ≡ true → part_fit (part_at ts code) ≡ true
unfolding numbers_fit
held-fit ts code h = (both (unsigned (part ts code) && all_of (le_z (pos 0)) (drop 13 (part ts code))) (part_fit (part_at ts code)) h).1

-- a code and a memory of the right length
pub lies-there : (ts : List ℤ) (code : ℕ) → code ≤ 99 → length ts ≡ tallies_length → lies ts code ≡ true
lies-there ts code low len = and_intro (le-leb code 99 low) (eq-eqb (length ts) tallies_length len)

pub written_is : (ts : List ℤ) (code : ℕ) (p : Part) → lies ts code ≡ true → part_fit p ≡ true → written ts code p ≡ with_part ts code p
written_is ts code p h f = rw (h, f) refl

-- a fit part is read whole
module _ (ts : List ℤ) (code : ℕ) (h : fit_at ts code ≡ true) where
  pub read_is : read_at ts code ≡ part_at ts code
  unfolding fit_at
  read_is = rw (both (lies ts code) (part_at_fit ts code) h).0 refl

  pub part-is-fit : part_fit (part_at ts code) ≡ true
  unfolding fit_at
  part-is-fit = held-fit ts code (both (lies ts code) (part_at_fit ts code) h).1
