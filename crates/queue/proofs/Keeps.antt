-- What a queue keeps: its waits stay from 1 to 9,999 and at most eight. Assumes nothing.
use mathlib.Core.Path.{◌≡◌, refl}
use mathlib.Core.Bool.{true, false, ◌||◌, not}
use mathlib.Core.List.{List, [], ◌∷◌, ◌++◌, map}
use Prim.Native.Nat.{ℕ, ◌≤◌}
use native.Mathlib.Omega.{arith}
use lib.Dec.{leb}
use lib.ListN.{length, length-append, length-map, length-take}
use borrow.Author.Tests.{leb-true, le-leb, leb-false, eqb-false}
use Rattle.laws.specs.Choice.{within}
use Rattle.laws.proofs.Tests.{both, neither, and_intro, if_ind}
use Rattle.lists.specs.Each.{all_of, without}
use Rattle.lists.proofs.Each.{all_more, without-short, without_keeps}
use Rattle.time.specs.Time.{longest, is_time, fallen, ended}
use Rattle.queue.specs.Queue.{places, waits_of, laid, waiting, is_empty, is_full, queue_ticked, joined, queue_fit}
use Rattle.queue.specs.declared.Queue.{Queue}
use Rattle.queue.proofs.Waits.{waits-laid}

pub laid-fit : (l : List ℕ) (shortest : ℕ) → length l ≤ places → all_of (within shortest longest) l ≡ true → queue_fit (laid l) shortest ≡ true
unfolding queue_fit laid
laid-fit l shortest n h = and_intro (le-leb (length l) places n) (rw (waits-laid l) h)

-- a wait that has fallen and not ended
still-fit : (w : ℕ) → within 1 longest w ≡ true → ended (fallen w) ≡ false → within 1 longest (fallen w) ≡ true
still-fit w h t =
    let b = both (leb 1 w) (leb w longest) h in
    let above : fallen w ≡ 0 → ⊥ = eqb-false (fallen w) 0 t in
    and_intro (le-leb 1 (fallen w) (omega arith)) (le-leb (fallen w) longest (omega (arith, leb-true w longest b.1)))

-- what a fit queue tells: it holds no more than its places, and its waits
pub fit_tells : (q : Queue) (shortest : ℕ) → queue_fit q shortest ≡ true → (waiting q ≤ places) × (all_of (within shortest longest) (waits_of q) ≡ true)
unfolding queue_fit waiting waits_of
fit_tells q shortest h =
    let b = both (leb q.n places) (all_of (within shortest longest) (waits_of q)) h in
    (omega (arith, length-take q.n q.waits, leb-true q.n places b.0), b.1)

pub queue_ticked-fit : (q : Queue) → queue_fit q 1 ≡ true → queue_fit (queue_ticked q) 1 ≡ true
unfolding queue_ticked waiting
queue_ticked-fit q h =
    let b = fit_tells q 1 h in
    let fell = map fallen (waits_of q) in
    let few : length (without ended fell) ≤ places = omega (arith, without-short ended fell, length-map (waits_of q) fallen, b.0) in
    if_ind (λ (k : Queue). queue_fit k 1 ≡ true) (is_empty q) _ _
    (λ _. h)
    (λ _. laid-fit (without ended fell) 1 few (without_keeps ended (within 1 longest) fallen still-fit (waits_of q) b.1))

pub joined-fit : (q : Queue) (ts shortest : ℕ) → within shortest longest ts ≡ true → queue_fit q shortest ≡ true → queue_fit (joined q ts) shortest ≡ true
unfolding joined is_full all_of waiting
joined-fit q ts shortest t h =
    let b = fit_tells q shortest h in
    if_ind (λ (k : Queue). queue_fit k shortest ≡ true) (is_full q || not (is_time ts)) _ _
    (λ _. h)
    (λ f. laid-fit (waits_of q ++ ts ∷ []) shortest
    (omega (arith, length-append (waits_of q) (ts ∷ []), leb-false places (waiting q) (neither (is_full q) _ f).0))
    (all_more (within shortest longest) (waits_of q) (ts ∷ []) b.1 (and_intro t refl)))
