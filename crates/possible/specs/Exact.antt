-- 02, T-12: "With e = 0 the set has the one outcome of step 6."
use Rattle.std.specs.Prelude.{◌≡◌, true, List, ◌↔◌, ℕ, ℤ}
use Rattle.settings.specs.declared.Settings.{Settings}
use Rattle.possible.specs.Outcome.{outcome_of}
use Rattle.possible.specs.Answer.{all_weights, CanBe}

abbrev pub Exact : Type 0
Exact = (s : Settings) (xs : List ℤ) (k : ℕ) → all_weights xs ≡ true → CanBe s 0 xs k ↔ (outcome_of s xs ≡ k)
