-- 01, "The book of demand 3 is fed only the events and their replies." Nothing here names a line, a tally or the memory.
use Rattle.std.specs.Prelude.{ℕ, Bool, true, false, ◌&&◌, not, List, [], ◌∷◌, eqb, ltb, ℤ, pos, length, Ok, Err}
use Rattle.laws.specs.Choice.{when◌then◌else◌}
use Rattle.event.specs.declared.Event.{Event}
use Rattle.event.specs.declared.Event.TheVariants.{Recall, Cancel, ClearCode, ClearAll, Store}
use Rattle.verdict.specs.Verdict.{is_verdict}
use Rattle.tally.specs.Tally.{tally_limit}
use Rattle.event.specs.Reply.{Reply}

-- an event and its reply
pub record Turn : Type 0 where
  pub event : Event
  pub reply : Reply

-- "a page of verdicts (outcome, net)"; T-05: "The target is the one at the verdict; the book of demand 3 notes it with the verdict"
pub record Verdict : Type 0 where
  pub outcome : ℕ
  pub net : ℤ
  pub target : ℤ

-- "a page .. for each code"; the last verdict of a page stands first in its list
abbrev pub Pages : Type 0
Pages = ℕ → List Verdict

-- "It has an active code, a page of verdicts .. for each code, and a chance to cancel or none."; T-05: and each code's target,
-- "from the last accepted store of the active code (0 before one)"
pub record Book : Type 0 where
  pub code : ℕ
  pub pages : Pages
  pub chance : Bool
  pub targets : ℕ → ℤ

-- "It starts on code 0, pages empty, no chance."
abbrev pub first_book : Book
first_book = record { code = 0; pages = λ _. []; chance = false; targets = λ _. pos 0 }

-- the pages with code's page anew
abbrev pub turned : Pages → ℕ → List Verdict → Pages
turned f code p k = when eqb k code then p else f k

-- the targets with code's anew
abbrev pub aimed : (ℕ → ℤ) → ℕ → ℤ → ℕ → ℤ
aimed f code target k = when eqb k code then target else f k

-- "A verdict (outcome 1 to 8) is put last on the active page and gives a chance, if fewer than 999,999 are there; else the chance ends."
unfoldable pub has_place : Book → Bool
has_place b = ltb (length (b.pages b.code)) tally_limit

unfoldable pub entered : Book → Verdict → Book
entered b v =
    when has_place b then record b { pages = turned b.pages b.code (v ∷ b.pages b.code); chance = true }
    else record b { chance = false }

-- "takes the last one, if any, off"
abbrev pub last_off : List Verdict → List Verdict
last_off [] = []
last_off (v ∷ p) = p

-- "Cancel takes the last one, if any, off the active page; recall makes its code active; clear all empties all pages: each ends the chance.
-- Clear code empties its page, and ends the chance if that page is active. All else, refusals too, leaves the book as it is."
unfoldable pub commanded : Book → Event → Book
commanded b (Recall c) = record b { code = c; chance = false }
commanded b Cancel = record b { pages = turned b.pages b.code (last_off (b.pages b.code)); chance = false }
commanded b (ClearCode c) = record b { pages = turned b.pages c []; chance = b.chance && not (eqb c b.code) }
commanded b ClearAll = record b { pages = λ _. []; chance = false }
commanded b (Store s) = record b { targets = aimed b.targets s.code s.settings.target }
commanded b e = b

-- the book after an event and its reply; "refusals too" leave it as it is
unfoldable pub fed : Book → Event → Reply → Book
fed b e (Err r) = b
fed b e (Ok d) =
    when is_verdict d.outcome then entered b (record { outcome = d.outcome; net = d.net; target = b.targets b.code }) else commanded b e

-- "Tallied is 1 exactly when a verdict was put on a page"
unfoldable pub tallied_by : Book → Reply → ℕ
tallied_by b (Err r) = 0
tallied_by b (Ok d) = when is_verdict d.outcome && has_place b then 1 else 0

-- the book of what has been said; the last turn stands first
unfoldable pub book_of : List Turn → Book
book_of [] = first_book
book_of (t ∷ h) = fed (book_of h) t.event t.reply
