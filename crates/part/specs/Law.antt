-- The formula gives the class: of the 21 classes one holds a net, whatever the net and the target are.
use Rattle.std.specs.Prelude.{ℕ, ◌≤◌, ◌≡◌, true, ℤ}
use Rattle.part.specs.Class.{last_class, holds, class_of}

pub record ClassLaw : Type 0 where
  pub known : (net target : ℤ) → class_of net target ≤ last_class
  pub held : (net target : ℤ) → holds (class_of net target) net target ≡ true
  pub only : (k : ℕ) (net target : ℤ) → k ≤ last_class → holds k net target ≡ true → k ≡ class_of net target
