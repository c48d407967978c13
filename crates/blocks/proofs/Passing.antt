-- What passes from a reader and to a writer, step by step. Assumes nothing.
use mathlib.Core.Path.{subst}
use mathlib.Core.List.{List, [], ◌++◌, append-nil}
use Prim.Native.Nat.{ℕ}
use Rattle.std.specs.Prelude.{Option}
use Rattle.std.specs.Io.KnownBytes.{Consumes, Appends}
use Rattle.std.proofs.KnownBytes.{Consumes-nil, Consumes-trans, Appends-nil, Appends-trans}
use Rattle.blocks.specs.Known.{Streams, streams, Passed}

pub passed_none : (x : Streams) → Passed x x [] []
passed_none x = record { read = Consumes-nil x.left; wrote = Appends-nil x.holds }

module _ (before now : Streams) (input written : List ℕ) (p : Passed before now input written) where
  pub passed_in : (left : Option (List ℕ)) (new : List ℕ) → Consumes now.left left new → Passed before (streams left now.holds) (input ++ new) written
  passed_in left new c = record { read = Consumes-trans before.left now.left left input new p.read c; wrote = p.wrote }

  pub passed_end : (left : Option (List ℕ)) → Consumes now.left left [] → Passed before (streams left now.holds) input written
  passed_end left c = subst (λ (i : List ℕ). Passed before (streams left now.holds) i written) (append-nil input) (passed_in left [] c)

  pub passed_out : (holds : Option (List ℕ)) (new : List ℕ) → Appends now.holds holds new → Passed before (streams now.left holds) input (written ++ new)
  passed_out holds new a = record { read = p.read; wrote = Appends-trans before.holds now.holds holds written new p.wrote a }
