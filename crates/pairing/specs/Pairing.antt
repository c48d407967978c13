-- 02, T-13: what a pairing of verdicts with signals is, and what it leaves over. The lists are strictly rising, so that no tick stands in one twice: an entry is its tick.
use Rattle.std.specs.Prelude.{◌≡◌, Bool, true, not, List, [], ◌∷◌, map, ◌≢◌, ℕ, ◌+◌, ◌≤◌, ◌<◌, eqb}
use Rattle.lists.specs.Each.{any_of, counted}

-- the tick of a verdict and that of a signal
pub record Pair : Type 0 where
  pub verdict : ℕ
  pub signal : ℕ

-- the tick stands in the list
abbrev pub stands_in : List ℕ → ℕ → Bool
stands_in l x = any_of (eqb x) l

-- P holds of each
pub data Every {A : Type 0} (P : A → Type 0) : List A → Type 0 where
  none : Every P []
  more : {x : A} {l : List A} → P x → Every P l → Every P (x ∷ l)

-- "pairs verdict v with signal t only if v + a ≤ t ≤ v + b"
pub record Fits (vs ts : List ℕ) (a b : ℕ) (p : Pair) : Type 0 where
  pub verdict_in : stands_in vs p.verdict ≡ true
  pub signal_in : stands_in ts p.signal ≡ true
  pub from : p.verdict + a ≤ p.signal
  pub upto : p.signal ≤ p.verdict + b

-- two pairs share neither a verdict nor a signal
abbrev pub Apart : Pair → Pair → Type 0
Apart p q = (p.verdict ≢ q.verdict) × (p.signal ≢ q.signal)

-- "uses each entry at most once": each pair is apart from every later one
abbrev pub Once : List Pair → Type 0
Once [] = Unit
Once (p ∷ ps) = Every (Apart p) ps × Once ps

-- a pairing, its pairs in any order: it "uses each entry at most once and keeps the window"
pub record Pairing (vs ts : List ℕ) (a b : ℕ) (ps : List Pair) : Type 0 where
  pub each : Every (Fits vs ts a b) ps
  pub once : Once ps

-- "in rising order of verdict tick": each pair's verdict is before every later one's
abbrev pub Ordered : List Pair → Type 0
Ordered [] = Unit
Ordered (p ∷ ps) = Every (λ q. p.verdict < q.verdict) ps × Ordered ps

-- "verdict tick then signal tick"
abbrev pub flat : List Pair → List ℕ
flat [] = []
flat (p ∷ ps) = p.verdict ∷ p.signal ∷ flat ps

abbrev pub verdicts_of : List Pair → List ℕ
verdicts_of ps = map (λ (p : Pair). p.verdict) ps

abbrev pub signals_of : List Pair → List ℕ
signals_of ps = map (λ (p : Pair). p.signal) ps

-- "leftovers counted from the lists": how many entries are none of those used
abbrev pub left_over : List ℕ → List ℕ → ℕ
left_over used l = counted (λ x. not (stands_in used x)) l
