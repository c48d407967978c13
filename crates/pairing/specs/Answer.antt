-- 02, T-13: the call's refusals in their order, and what it answers.
use Rattle.std.specs.Prelude.{◌≡◌, Bool, true, ◌&&◌, not, List, [], ◌∷◌, ◌++◌, ℕ, ◌+◌, ◌*◌, ◌≤◌, leb, ltb, length, drop, Option, None, Some, Result, Ok, Err}
use Rattle.lists.specs.Each.{all_of}
use Rattle.time.specs.Time.{longest}
use Rattle.refusal.specs.Table.{value_no, first_holding}
use Rattle.pairing.specs.Pairing.{Pair, Pairing, Ordered, flat, verdicts_of, signals_of, left_over}
use Rattle.pairing.specs.declared.Counts.{Counts}
use Rattle.pairing.specs.declared.Refusal.{Refusal}
use Rattle.pairing.specs.declared.Refusal.TheVariants.{Order, Value, Window, Pairs}

-- "New numbers: 16 order, a list not rising or too long; 17 window, unless 0 ≤ a ≤ b ≤ 9,999; 18 pairs, buffer shorter than twice the verdict list."
abbrev pub order_no : ℕ
order_no = 16

abbrev pub window_no : ℕ
window_no = 17

abbrev pub pairs_no : ℕ
pairs_no = 18

abbrev pub number_of : Refusal → ℕ
number_of Order = order_no
number_of Value = value_no
number_of Window = window_no
number_of Pairs = pairs_no

-- "at most 4,096 ticks"
abbrev pub longest_list : ℕ
longest_list = 4096

-- "Ticks are at most 1,000,000,000."
abbrev pub last_tick : ℕ
last_tick = 1000000000

-- "strictly rising": each tick is below the next
abbrev pub rises : List ℕ → Bool
rises [] = true
rises (x ∷ []) = true
rises (x ∷ y ∷ l) = ltb x y && rises (y ∷ l)

unfoldable pub in_order : List ℕ → Bool
in_order l = leb (length l) longest_list && rises l

abbrev pub ticks_fit : List ℕ → Bool
ticks_fit l = all_of (λ t. leb t last_tick) l

-- "0 ≤ a ≤ b ≤ 9,999"
abbrev pub in_window : ℕ → ℕ → Bool
in_window a b = leb a b && leb b longest

-- "Order 16, 2 for a tick too large, 17, 18": the first that holds; room is the buffer's length
unfoldable pub refusal_of : List ℕ → List ℕ → ℕ → ℕ → ℕ → Option Refusal
refusal_of vs ts a b room =
    first_holding
    (record { refusal = Order; holds = not (in_order vs && in_order ts) }
    ∷ record { refusal = Value; holds = not (ticks_fit vs && ticks_fit ts) }
    ∷ record { refusal = Window; holds = not (in_window a b) }
    ∷ record { refusal = Pairs; holds = ltb room (2 * length vs) }
    ∷ [])

-- a largest pairing, "in rising order of verdict tick"
pub record Largest (vs ts : List ℕ) (a b : ℕ) (pairs : List Pair) : Type 0 where
  pub pairing : Pairing vs ts a b pairs
  -- "Every other pairing that uses each entry at most once and keeps the window has at most as many pairs."
  pub largest : (others : List Pair) → Pairing vs ts a b others → length others ≤ length pairs
  pub ordered : Ordered pairs

-- what is counted of it
pub record Counted (vs ts : List ℕ) (pairs : List Pair) (c : Counts) : Type 0 where
  pub paired : c.pairs ≡ length pairs
  -- "with both leftovers counted from the lists"
  pub missing : c.missing ≡ left_over (verdicts_of pairs) vs
  pub extra : c.extra ≡ left_over (signals_of pairs) ts
  -- "Verdicts = pairs + missing, signals = pairs + extra"
  pub verdicts_add : length vs ≡ c.pairs + c.missing
  pub signals_add : length ts ≡ c.pairs + c.extra

-- what an accepted call gives; "Which largest pairing it gives is free."
pub record Given (vs ts : List ℕ) (a b : ℕ) (before after : List ℕ) (c : Counts) : Type 0 where
  pub pairs : List Pair
  pub largest : Largest vs ts a b pairs
  pub counted : Counted vs ts pairs c
  -- "The pairs go to a lent buffer, verdict tick then signal tick, .. the rest of it stays."
  pub written : after ≡ flat pairs ++ drop (2 * length pairs) before

-- a refused call leaves the buffer
abbrev pub Answered : List ℕ → List ℕ → ℕ → ℕ → List ℕ → List ℕ → Result Counts Refusal → Type 0
Answered vs ts a b before after (Err r) = (refusal_of vs ts a b (length before) ≡ Some r) × (after ≡ before)
Answered vs ts a b before after (Ok c) = (refusal_of vs ts a b (length before) ≡ None) × Given vs ts a b before after c
