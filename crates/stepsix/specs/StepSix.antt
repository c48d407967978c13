-- 02, T-12: what samples "would give .. with no foreign signal and an empty queue" is the outcome of the line's own step 6 for a box
-- that is averaged over them.
use Rattle.std.specs.Prelude.{◌≡◌, true, List, [], ◌∷◌, ℕ, ℤ, pos, length}
use Rattle.lists.specs.Each.{all_of}
use Rattle.settings.specs.declared.Settings.{Settings}
use Rattle.queue.specs.Queue.{is_empty}
use Rattle.device.specs.declared.sorter.Sorter.{Sorter}
use Rattle.detector.specs.Foreign.{carried}
use Rattle.event.specs.declared.Sample.{Sample}
use Rattle.item.specs.declared.Item.TheVariants.{Averaging}
use Rattle.line.specs.Effect.{Effect, plain}
use Rattle.line.specs.Sample.{tick_of, step6}
use Rattle.line.specs.declared.line.Line.{Line}
use Rattle.possible.specs.Outcome.{outcome_of}
use Rattle.possible.specs.Answer.{count_fits, all_weights}

-- the line is about to average an item over n samples, with no foreign signal and all queues empty
pub record Averages (l : Line) (n : ℕ) : Type 0 where
  pub item : l.item ≡ Averaging n (pos 0)
  pub ta : l.setup.ta ≡ n
  pub no_signal : carried l.foreign ≡ 0
  pub queues : all_of (λ (s : Sorter). is_empty s.queue) l.sorters ≡ true

-- a sample with this gross, and nothing else in it
abbrev pub sample_of : ℤ → Sample
sample_of x = record { gross = x; sensor = 0; emergency = 0; safety = 255; foreign = 0 }

-- step 6 for one sample more
abbrev pub weighing : Line → Settings → ℤ → Effect
weighing l s x = step6 l (tick_of l s (sample_of x))

-- step 6 for each sample after the other, and what the last one does
abbrev pub fed : Line → Settings → List ℤ → Effect
fed l s [] = plain l
fed l s (x ∷ []) = weighing l s x
fed l s (x ∷ y ∷ xs) = fed (weighing l s x).line s (y ∷ xs)

pub record SameAsStep6 : Type 0 where
  -- whatever the line is otherwise, the last sample's outcome is the one that `possible` speaks of
  pub same : (l : Line) (s : Settings) (xs : List ℤ) → count_fits (length xs) ≡ true → all_weights xs ≡ true → Averages l (length xs)
      → (fed l s xs).outcome ≡ outcome_of s xs
  -- and for each number of samples there is such a line
  pub some : (n : ℕ) → (l : Line) × Averages l n
