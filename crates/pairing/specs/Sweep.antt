-- How both lists are gone through at once: the contract of the private function that fills the buffer.
use Rattle.std.specs.Prelude.{◌≡◌, List, [], ◌∷◌, ◌++◌, ℕ, ◌+◌, ◌*◌, ◌≤◌, ◌<◌, length, drop}
use Rattle.pairing.specs.Pairing.{Pair, flat}

-- the earliest verdict left and the earliest signal left: the signal is too early for the verdict, or too late, or they are a pair
pub data Sweep (a b : ℕ) : List ℕ → List ℕ → List Pair → Type 0 where
  no_verdict : {ts : List ℕ} → Sweep a b [] ts []
  no_signal : {vs : List ℕ} → Sweep a b vs [] []
  early : {v t : ℕ} {vs ts : List ℕ} {ps : List Pair} → t < v + a → Sweep a b (v ∷ vs) ts ps → Sweep a b (v ∷ vs) (t ∷ ts) ps
  late : {v t : ℕ} {vs ts : List ℕ} {ps : List Pair} → v + b < t → Sweep a b vs (t ∷ ts) ps → Sweep a b (v ∷ vs) (t ∷ ts) ps
  pair : {v t : ℕ} {vs ts : List ℕ} {ps : List Pair} → v + a ≤ t → t ≤ v + b → Sweep a b vs ts ps → Sweep a b (v ∷ vs) (t ∷ ts) (record { verdict = v; signal = t } ∷ ps)

-- the buffer holds the pairs of a sweep, k of them, and behind them what it held
pub record Filled (vs ts : List ℕ) (a b : ℕ) (before after : List ℕ) (k : ℕ) : Type 0 where
  pub pairs : List Pair
  pub sweep : Sweep a b vs ts pairs
  pub counted : k ≡ length pairs
  pub written : after ≡ flat pairs ++ drop (2 * length pairs) before
