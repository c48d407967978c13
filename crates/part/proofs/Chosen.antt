-- What an answer tells that is given where a test passes, and is None where it fails. Assumes nothing.
use mathlib.Core.Path.{◌≡◌, refl}
use mathlib.Core.Bool.{Bool, true, false}
use Rattle.std.specs.Prelude.{Some, None}
use Rattle.laws.specs.Choice.{when◌then◌else◌}
use Rattle.laws.proofs.Tests.{clash}

pub none_given : {A : Type 0} (b : Bool) (x : A) → (when b then Some x else None) ≡ None → b ≡ false
none_given true x h = clash (cc)
none_given false x h = refl

pub some_given : {A : Type 0} (b : Bool) (x y : A) → (when b then Some x else None) ≡ Some y → (b ≡ true) × (y ≡ x)
some_given true x y h = (refl, cc)
some_given false x y h = clash (cc)
