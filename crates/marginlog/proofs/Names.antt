-- The names as they are written are the list of the possible ones, commas between. Assumes nothing.
use Prim.Native.Nat.{ℕ, ◌+◌, ◌≤◌, ◌<◌}
use mathlib.Core.Path.{◌≡◌, refl, ap, ◌∙◌}
use mathlib.Core.Bool.{true, false}
use mathlib.Core.List.{List, [], ◌∷◌, ◌++◌, append_assoc}
use native.Mathlib.Omega.{arith}
use lib.Dec.{eqb, ltb}
use lib.ListN.{length}
use borrow.Author.Tests.{ltb-true, ne_eqb}
use Rattle.laws.proofs.Tests.{both, by_cases}
use Rattle.lists.specs.Each.{all_of}
use Rattle.mask.specs.Bits.{bit_set}
use Rattle.decimal.specs.Bytes.{bytes}
use Rattle.print.specs.Text.{ahead, joined}
use Rattle.print.specs.Steps.{Wrote}
use Rattle.print.proofs.Put.{wrote_none, wrote_then, wrote_as}
use Rattle.marginlog.specs.Lines.{Named, outcome_names, possible_ones}
use Rattle.marginlog.specs.Views.{start, next_name}

-- what is written from a place on
abbrev pub listed : ℕ → List Named → List ℕ
listed at [] = []
listed at (n ∷ ns) = next_name at n.possible n.name ++ listed (at + length (next_name at n.possible n.name)) ns

-- behind the first name each has its comma
behind-first : (at : ℕ) (ns : List Named) → start < at → listed at ns ≡ ahead (bytes ",") (possible_ones ns)
behind-first at [] h = refl
behind-first at (n ∷ ns) h =
    by_cases n.possible
    (λ y.
    let other : eqb at start ≡ false = ne_eqb at start (λ e. omega (arith, e, h)) in
    rw (y, other) (
    append_assoc (bytes ",") n.name (listed (at + length (bytes "," ++ n.name)) ns)
    ∙ ap (λ (t : List ℕ). bytes "," ++ (n.name ++ t)) (behind-first (at + length (bytes "," ++ n.name)) ns (omega (arith, h)))))
    (λ y. rw y (behind-first (at + 0) ns (omega (arith, h))))

-- from the start on, where no name is empty
from_start : (ns : List Named) → all_of (λ (n : Named). ltb 0 (length n.name)) ns ≡ true → listed start ns ≡ joined (bytes ",") (possible_ones ns)
unfolding all_of
from_start [] h = refl
from_start (n ∷ ns) h =
    let b = both (ltb 0 (length n.name)) (all_of (λ (n : Named). ltb 0 (length n.name)) ns) h in
    let some = ltb-true 0 (length n.name) b.0 in
    by_cases n.possible
    (λ y. rw y (ap (λ (t : List ℕ). n.name ++ t) (behind-first (start + length n.name) ns (omega (arith, some)))))
    (λ y. rw y (from_start ns b.1))

pub names_joined : (mask : ℕ) → listed start (outcome_names mask) ≡ joined (bytes ",") (possible_ones (outcome_names mask))
unfolding all_of
names_joined mask = from_start (outcome_names mask) refl

-- ---- one name after the other

more : {b b' b'' : List ℕ} {at r q m k : ℕ} (n : Named) (ns : List Named)
    → Wrote b at (next_name at n.possible n.name) m b' r → Wrote b' r (listed r ns) k b'' q → Wrote b at (listed at (n ∷ ns)) (m + k) b'' q
more {at = at} n ns v w = wrote_as (ap (λ (z : ℕ). next_name at n.possible n.name ++ listed z ns) v.place) (wrote_then v w)

pub names_written : (mask : ℕ) {b₀ b₁ b₂ b₃ b₄ b₅ b₆ : List ℕ} {p₀ p₁ p₂ p₃ p₄ p₅ p₆ : ℕ}
    → Wrote b₀ p₀ (next_name p₀ (bit_set mask 1) (bytes "lolo")) 5 b₁ p₁
    → Wrote b₁ p₁ (next_name p₁ (bit_set mask 2) (bytes "lo")) 3 b₂ p₂
    → Wrote b₂ p₂ (next_name p₂ (bit_set mask 3) (bytes "ok")) 3 b₃ p₃
    → Wrote b₃ p₃ (next_name p₃ (bit_set mask 4) (bytes "hi")) 3 b₄ p₄
    → Wrote b₄ p₄ (next_name p₄ (bit_set mask 5) (bytes "hihi")) 5 b₅ p₅
    → Wrote b₅ p₅ (next_name p₅ (bit_set mask 9) (bytes "dismissed")) 10 b₆ p₆
    → p₆ ≤ length b₆ → Wrote b₀ p₀ (listed p₀ (outcome_names mask)) 29 b₆ p₆
names_written mask {b₆ = b₆} {p₆ = p₆} u v w x y z end =
    let n₁ : Named = record { possible = bit_set mask 1; name = bytes "lolo" } in
    let n₂ : Named = record { possible = bit_set mask 2; name = bytes "lo" } in
    let n₃ : Named = record { possible = bit_set mask 3; name = bytes "ok" } in
    let n₄ : Named = record { possible = bit_set mask 4; name = bytes "hi" } in
    let n₅ : Named = record { possible = bit_set mask 5; name = bytes "hihi" } in
    let n₆ : Named = record { possible = bit_set mask 9; name = bytes "dismissed" } in
    more n₁ (n₂ ∷ n₃ ∷ n₄ ∷ n₅ ∷ n₆ ∷ []) u (more n₂ (n₃ ∷ n₄ ∷ n₅ ∷ n₆ ∷ []) v (more n₃ (n₄ ∷ n₅ ∷ n₆ ∷ []) w (more n₄ (n₅ ∷ n₆ ∷ []) x (more n₅ (n₆ ∷ []) y (more n₆ [] z (wrote_none b₆ p₆ end))))))
