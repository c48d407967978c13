-- What the sentences of the book come to, as one theorem on its definitions.
use Rattle.std.specs.Prelude.{ℕ, ◌≤◌, ◌<◌, ◌≡◌, true, false, List, [], ◌∷◌, length}
use Rattle.event.specs.declared.Stored.{Stored}
use Rattle.event.specs.declared.Event.TheVariants.{Recall, Cancel, ClearCode, ClearAll, Store}
use Rattle.tally.specs.Tally.{tally_limit}
use Rattle.book.specs.Book.{Verdict, Book, has_place, entered, commanded}
use Rattle.part.specs.Part.{added_part}
use Rattle.lists.specs.Counts.{add_up}
use Rattle.book.specs.Page.{nets_of, histogram, part_of_page}

pub record Laws : Type 0 where
  -- a verdict more on a page is a verdict more in its tally and, if it is graded, in its class
  pub more : (v : Verdict) (p : List Verdict) → part_of_page (v ∷ p) ≡ added_part (part_of_page p) v.outcome v.net v.target
  -- "The 21 counts add to n"
  pub counts : (p : List Verdict) → add_up (histogram p) ≡ length (nets_of p)
  -- T-05: the target is "from the last accepted store" of a code, and a store leaves every page
  pub stored : (b : Book) (s : Stored) → (commanded b (Store s)).targets s.code ≡ s.settings.target
  pub store-leaves : (b : Book) (s : Stored) (k : ℕ) → (commanded b (Store s)).pages k ≡ b.pages k
  -- "if fewer than 999,999 are there"
  pub place : (b : Book) → length (b.pages b.code) < tally_limit → has_place b ≡ true
  pub no_place : (b : Book) → tally_limit ≤ length (b.pages b.code) → has_place b ≡ false
  -- a verdict and its cancel leave every page as it was
  pub undone : (b : Book) (v : Verdict) (k : ℕ) → has_place b ≡ true → (commanded (entered b v) Cancel).pages k ≡ b.pages k
  -- "each ends the chance"
  pub cancelled : (b : Book) → (commanded b Cancel).chance ≡ false
  pub recalled : (b : Book) (c : ℕ) → (commanded b (Recall c)).chance ≡ false
  pub all-cleared : (b : Book) → (commanded b ClearAll).chance ≡ false
  -- "Clear code empties its page, and ends the chance if that page is active."
  pub cleared : (b : Book) (c : ℕ) → (commanded b (ClearCode c)).pages c ≡ []
  pub active-cleared : (b : Book) → (commanded b (ClearCode b.code)).chance ≡ false
