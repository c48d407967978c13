-- What a queue holds: the waits of a list laid, after a tick, after one joined; and what the number n tells of them where
-- the queue has its eight places. Assumes nothing.
use mathlib.Core.Path.{◌≡◌, refl, sym, ◌∙◌}
use mathlib.Core.Bool.{true, false, not}
use mathlib.Core.List.{List, [], ◌∷◌, ◌++◌, map}
use Prim.Native.Nat.{ℕ, ◌+◌, ◌≤◌, ◌<◌, min}
use native.Mathlib.Omega.{arith}
use lib.Dec.{eqb, ltb, leb}
use lib.ListN.{length, take, length-append, length-take, length-map}
use lib.Seq.{take-append_seam}
use borrow.Author.Tests.{eq-eqb, ne_eqb, eqb-true, eqb-false, le-ltb, le-leb, lt-leb, leb-true, leb-false}
use Rattle.laws.specs.Choice.{bit}
use Rattle.laws.proofs.Tests.{by_cases}
use Rattle.lists.specs.Each.{without}
use Rattle.lists.proofs.Each.{one_less, take_counted}
use Rattle.time.specs.Time.{is_time, fallen, ended}
use Rattle.queue.specs.Queue.{places, waits_of, laid, waiting, is_empty, is_full, queue_ticked, one_ends, joined}
use Rattle.queue.specs.declared.Queue.{Queue}

-- the waits of a list laid are the list
pub waits-laid : (l : List ℕ) → waits_of (laid l) ≡ l
unfolding waits_of laid
waits-laid l = take-append_seam l _

-- ---- a tick

nothing : (l : List ℕ) → length l ≡ 0 → l ≡ without ended (map fallen l)
unfolding without
nothing [] h = refl
nothing (w ∷ l) h = absurd (omega arith)

pub waits-ticked : (q : Queue) → waits_of (queue_ticked q) ≡ without ended (map fallen (waits_of q))
unfolding queue_ticked is_empty waiting
waits-ticked q =
    by_cases (is_empty q)
    (λ t. rw t (nothing (waits_of q) (eqb-true (waiting q) 0 t)))
    (λ t. rw t (waits-laid _))

-- one ends on a tick exactly where fewer wait after it
pub ends_fewer : (q : Queue) → one_ends q ≡ ltb (waiting (queue_ticked q)) (waiting q)
unfolding one_ends waiting
ends_fewer q = one_less ended (map fallen (waits_of q)) ∙ rw (waits-ticked q, length-map)

pub empty_stays : (q : Queue) → is_empty q ≡ true → queue_ticked q ≡ q
unfolding queue_ticked
empty_stays q h = rw h

pub none_ends : (q : Queue) → is_empty q ≡ true → one_ends q ≡ false
none_ends q h = ends_fewer q ∙ rw (empty_stays q h) (le-ltb (waiting q) (waiting q) (omega arith))

-- ---- one joins

pub waits-joined : (q : Queue) (ts : ℕ) → is_full q ≡ false → is_time ts ≡ true → waits_of (joined q ts) ≡ waits_of q ++ ts ∷ []
unfolding joined
waits-joined q ts h t = rw (h, t) (waits-laid _)

pub one_more_lem : (q : Queue) (ts : ℕ) → is_full q ≡ false → is_time ts ≡ true → waiting (joined q ts) ≡ waiting q + 1
unfolding waiting
one_more_lem q ts h t = rw (waits-joined q ts h t) (length-append (waits_of q) (ts ∷ []))

-- a full queue takes none
pub none-joins : (q : Queue) (ts : ℕ) → is_full q ≡ true → joined q ts ≡ q
unfolding joined
none-joins q ts h = rw h

-- both at once
pub joined-waiting : (q : Queue) (ts : ℕ) → is_time ts ≡ true → waiting (joined q ts) ≡ waiting q + bit (not (is_full q))
joined-waiting q ts t =
    by_cases (is_full q)
    (λ h. rw (none-joins q ts h, h) (omega arith))
    (λ h. rw h (one_more_lem q ts h t))

-- a queue that is not full has a place free
pub one_fits : (q : Queue) → is_full q ≡ false → length (waits_of q) < places
unfolding is_full waiting
one_fits q h = leb-false places (length (waits_of q)) h

-- ---- the number n

pub waits_counted : (q : Queue) → take (waiting q) q.waits ≡ waits_of q
unfolding waiting waits_of
waits_counted q = take_counted q.n q.waits

module _ (q : Queue) (h : length q.waits ≡ places) where
  pub few_waits : length (waits_of q) ≤ places
  unfolding waits_of
  few_waits = omega (arith, length-take q.n q.waits)

  pub waiting_is : waiting q ≡ min q.n places
  unfolding waiting waits_of
  waiting_is = omega (arith, length-take q.n q.waits)

  pub empty_is : eqb q.n 0 ≡ is_empty q
  unfolding is_empty
  empty_is =
      by_cases (eqb q.n 0)
      (λ t. t ∙ sym (eq-eqb (waiting q) 0 (omega (arith, waiting_is, eqb-true q.n 0 t))))
      (λ t. t ∙ sym (ne_eqb (waiting q) 0 (λ e. eqb-false q.n 0 t (omega (arith, waiting_is)))))

  pub full_is : leb places q.n ≡ is_full q
  unfolding is_full
  full_is =
      by_cases (leb places q.n)
      (λ t. t ∙ sym (le-leb places (waiting q) (omega (arith, waiting_is, leb-true places q.n t))))
      (λ t. t ∙ sym (lt-leb places (waiting q) (omega (arith, waiting_is, leb-false places q.n t))))
