-- Laws of a text at a place of a buffer. Assumes nothing.
use Prim.Native.Nat.{ℕ, suc, ◌+◌, ◌≤◌, ◌<◌}
use mathlib.Core.Path.{◌≡◌, refl, sym, ap, subst, ◌∙◌}
use mathlib.Core.List.{List, [], ◌∷◌, ◌++◌, append_assoc, append-nil}
use native.Mathlib.Omega.{arith}
use native.Mathlib.Numerals.{add-one}
use lib.ListN.{length, take, drop, set, length-append, length-drop, take-append-drop}
use lib.Seq.{length-take-le, take_at, drop_at, drop-drop, set_split, take-set-le}
use borrow.Author.Tests.{le-leb, lt-leb}
use borrow.Rule.Slice.PartMut.{put_mid}
use Rattle.print.specs.Written.{buffer_after, length_written}
use Rattle.print.specs.Steps.{with_text_at, Wrote}

module _ (b : List ℕ) (at : ℕ) (s : List ℕ) (h : at + length s ≤ length b) where
  head_length : length (take at b ++ s) ≡ at + length s
  head_length = rw (length-append (take at b) s, length-take-le at b (omega arith))

  pub put_length : length (with_text_at b at s) ≡ length b
  unfolding with_text_at
  put_length = simp (length-append, length-take-le at b (omega arith), length-drop) (omega arith)

  parted : with_text_at b at s ≡ (take at b ++ s) ++ drop (at + length s) b
  unfolding with_text_at
  parted = sym (append_assoc (take at b) s (drop (at + length s) b))

  front : take (at + length s) (with_text_at b at s) ≡ take at b ++ s
  front = rw parted (take_at (take at b ++ s) (drop (at + length s) b) (at + length s) head_length)

  behind : (n : ℕ) → drop (at + length s + n) (with_text_at b at s) ≡ drop (at + length s + n) b
  behind n =
      sym (drop-drop n (at + length s) (with_text_at b at s))
      ∙ ap (drop n) (rw parted (drop_at (take at b ++ s) (drop (at + length s) b) (at + length s) head_length))
      ∙ drop-drop n (at + length s) b

  -- a text behind a text
  pub put_then : (t : List ℕ) → with_text_at (with_text_at b at s) (at + length s) t ≡ with_text_at b at (s ++ t)
  unfolding with_text_at
  put_then t =
      let e : at + length s + length t ≡ at + length (s ++ t) = rw length-append (omega arith) in
      rw (front, behind (length t), e) (simp append_assoc)

pub put_one : (b : List ℕ) (i x : ℕ) → i < length b → set b i x ≡ with_text_at b i (x ∷ [])
unfolding with_text_at
put_one b i x h = set_split b i x h ∙ ap (λ (k : ℕ). take i b ++ x ∷ drop k b) (sym (add-one i))

-- a byte behind where a text will be, before the text
pub put_last : (b : List ℕ) (at : ℕ) (s : List ℕ) (x : ℕ) → at + length s < length b → with_text_at (set b (at + length s) x) at s ≡ with_text_at b at (s ++ (x ∷ []))
unfolding with_text_at
put_last b at s x h =
    let i = at + length s in
    let e : suc i ≡ at + length (s ++ (x ∷ [])) = rw length-append (omega arith) in
    let d : drop i (set b i x) ≡ x ∷ drop (suc i) b = rw (set_split b i x h) (drop_at (take i b) (x ∷ drop (suc i) b) i (length-take-le i b (omega arith))) in
    rw (take-set-le at b i x (omega arith), d, e) (simp append_assoc)

-- a part of the buffer that holds the text now
pub put_part : (b : List ℕ) (at n : ℕ) (t s : List ℕ) → t ≡ s → n ≡ length s → put_mid at n b t ≡ with_text_at b at s
unfolding with_text_at
put_part b at n t s e f = rw (e, f, drop-drop (length s) at b) refl

pub put_front : (b s : List ℕ) → with_text_at b 0 s ≡ s ++ drop (length s) b
unfolding with_text_at
put_front b s = let e : 0 + length s ≡ length s = omega arith in rw e

-- nothing yet
pub wrote_none : (b : List ℕ) (at : ℕ) → at ≤ length b → Wrote b at [] 0 b at
unfolding with_text_at
wrote_none b at h =
    let e : at + 0 ≡ at = omega arith in
    record { bytes = rw e (sym (take-append-drop at b)); place = sym e; fits = omega arith; short = omega arith }

-- two texts, one behind the other
pub wrote_then : {b b' b'' : List ℕ} {at r q m n : ℕ} {s t : List ℕ} → Wrote b at s m b' r → Wrote b' r t n b'' q → Wrote b at (s ++ t) (m + n) b'' q
wrote_then {b} {b'} {b''} {at} {r} {q} {m} {n} {s} {t} v w =
    let l : length b' ≡ length b = ap length v.bytes ∙ put_length b at s v.fits in
    record {
      bytes = w.bytes ∙ rw (v.bytes, v.place) (put_then b at s v.fits t);
      place = rw length-append (omega (arith, v.place, w.place));
      fits = rw length-append (omega (arith, v.place, w.fits));
      short = rw length-append (omega (arith, v.short, w.short));
    }

-- in any room that the text has
pub wrote-within : {b b' : List ℕ} {at r m n : ℕ} {s : List ℕ} → length s ≤ n → Wrote b at s m b' r → Wrote b at s n b' r
wrote-within h w = record { bytes = w.bytes; place = w.place; fits = w.fits; short = h }

-- with more room
pub wrote_in : {b b' : List ℕ} {at r m n : ℕ} {s : List ℕ} → m ≤ n → Wrote b at s m b' r → Wrote b at s n b' r
wrote_in {b} {b'} {at} {r} {m} {n} {s} h w = wrote-within (omega (arith, w.short)) w

pub wrote_as : {b b' : List ℕ} {at r m : ℕ} {s t : List ℕ} → s ≡ t → Wrote b at s m b' r → Wrote b at t m b' r
wrote_as {b} {b'} {at} {r} {m} e w = subst (λ (l : List ℕ). Wrote b at l m b' r) e w

-- the end of a list of fields
pub wrote-end : {b b' : List ℕ} {at r m : ℕ} {s : List ℕ} → Wrote b at s m b' r → Wrote b at (s ++ []) m b' r
wrote-end {b} {b'} {at} {r} {m} {s} w = wrote_as (sym (append-nil s)) w

-- at the front of a buffer that is long enough
pub at_front : (room : ℕ) (s b : List ℕ) {b' : List ℕ} → room ≤ length b → b' ≡ with_text_at b 0 s → b' ≡ buffer_after room s b
at_front room s b h e = rw (le-leb room (length b) h) (e ∙ put_front b s)

-- at the front of a buffer that is long enough, and of one that is not
pub wrote-front : {b b' : List ℕ} {r m : ℕ} {s : List ℕ} (room : ℕ) → room ≤ length b → Wrote b 0 s m b' r → (r ≡ length_written room s b) × (b' ≡ buffer_after room s b)
wrote-front {b} {b'} {r} {m} {s} room h w = simp (le-leb room (length b) h) (omega (arith, w.place), w.bytes ∙ put_front b s)

pub kept-front : (room : ℕ) (s b : List ℕ) → length b < room → (0 ≡ length_written room s b) × (b ≡ buffer_after room s b)
kept-front room s b h = simp (lt-leb room (length b) h) (refl, refl)
