-- The sentences of the book, from its definitions. Assumes nothing.
use mathlib.Core.Path.{◌≡◌, refl}
use mathlib.Core.Bool.{true, and-false}
use Prim.Native.Nat.{ℕ}
use native.Mathlib.Omega.{arith}
use lib.Dec.{eqb}
use lib.ListN.{length}
use borrow.Author.Tests.{eq-eqb, eqb-true, lt-ltb, le-ltb}
use Rattle.laws.specs.Choice.{when◌then◌else◌}
use Rattle.laws.proofs.Tests.{by_cases}
use Rattle.event.specs.declared.Event.TheVariants.{Cancel}
use Rattle.book.specs.Book.{Verdict, Book, has_place, entered, commanded}
use Rattle.book.specs.Laws.{Laws}
use Rattle.book.proofs.Pages.{part-more, counts_add}
use Rattle.book.proofs.laws.Goals as goal

undone : (b : Book) (v : Verdict) (k : ℕ) → has_place b ≡ true → (commanded (entered b v) Cancel).pages k ≡ b.pages k
unfolding entered commanded
undone b v k h =
    rw h
    (by_cases (eqb k b.code)
    (λ y. rw (y, eq-eqb b.code b.code refl, eqb-true k b.code y) refl)
    (λ n. rw n refl))

-- what was put under a code is there
put-there : {A : Type 0} (c : ℕ) (x y : A) → (when eqb c c then x else y) ≡ x
put-there c x y = rw (eq-eqb c c refl) refl

laws-hold : Laws
unfolding has_place commanded
laws-hold =
    record {
      more = part-more;
      counts = counts_add;
      stored = λ b s. put-there s.code s.settings.target (b.targets s.code);
      store-leaves = λ _ _ _. refl;
      place = λ b h. lt-ltb (length (b.pages b.code)) 999999 (omega arith);
      no_place = λ b h. le-ltb (length (b.pages b.code)) 999999 h;
      undone = undone;
      cancelled = λ _. refl;
      recalled = λ _ _. refl;
      all-cleared = λ _. refl;
      cleared = λ b c. rw (eq-eqb c c refl) refl;
      active-cleared = λ b. rw (eq-eqb b.code b.code refl) (and-false b.chance);
    }

pub returns : goal.returns
returns c = laws-hold
