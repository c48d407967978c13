-- What noting a verdict comes to, as the code tests it, and where all is fit. Assumes nothing.
use mathlib.Core.Path.{◌≡◌, refl}
use mathlib.Core.Bool.{true, false}
use mathlib.Core.List.{List}
use Prim.Native.Nat.{ℕ}
use lib.IntN.{ℤ}
use Rattle.std.specs.Prelude.{Some, None}
use Rattle.laws.proofs.Tests.{both}
use Rattle.weight.specs.Weight.{is_weight}
use Rattle.verdict.specs.Verdict.{is_verdict}
use Rattle.tally.specs.Tally.{has_room, takes}
use Rattle.part.specs.Part.{added_part, takes_in, noted_part}
use Rattle.part.specs.declared.part.Part.{Part}
use Rattle.part.proofs.Chosen.{none_given, some_given}
use Rattle.part.proofs.Laws.{fit-part, part_fit_lem, added-fits}
use Rattle.tallies.specs.Memory.{lies, fit_at, part_at, read_at, part_at_fit, with_part, written}
use Rattle.tallies.proofs.Parts.{held-fit, read_is, written_is}
use Rattle.undo.specs.Undo.{takes_at, kept_of, noted_in}

module _ (ts : List ℤ) (c v : ℕ) (net target : ℤ) where
  -- a part that is unfit takes nothing
  pub unsound : fit_at ts c ≡ false → takes_at ts c v net target ≡ false
  unfolding takes_at
  unsound h = rw h refl

  -- else the verdict is taken as the part that is read takes it
  module _ (sound : fit_at ts c ≡ true) (p : Part) (read : p ≡ read_at ts c) where
    pub there : p ≡ part_at ts c
    there = rw (read_is ts c sound) at read

    pub untaken : noted_part p v net target ≡ None → takes_at ts c v net target ≡ false
    unfolding takes_at noted_part
    untaken h = rw sound (none_given (takes_in (part_at ts c) v net target) (added_part (part_at ts c) v net target) (rw there at h))

    module _ (next : Part) (h : noted_part p v net target ≡ Some next) where
      taken_in_part : (takes_in (part_at ts c) v net target ≡ true) × (next ≡ added_part (part_at ts c) v net target)
      unfolding noted_part
      taken_in_part = some_given (takes_in (part_at ts c) v net target) (added_part (part_at ts c) v net target) next (rw there at h)

      pub taken : takes_at ts c v net target ≡ true
      unfolding takes_at
      taken = rw (sound, taken_in_part.0) refl

      -- what is written is the part with the verdict
      pub taken-written : written ts c next ≡ with_part ts c (added_part (part_at ts c) v net target)
      unfolding fit_at
      taken-written =
          let q = added_part (part_at ts c) v net target in
          rw taken_in_part.1
          (written_is ts c q (both (lies ts c) (part_at_fit ts c) sound).0 (part_fit_lem q (added-fits (part_at ts c) v net target taken_in_part.0)))

  -- the same of each clause of `note`
  module _ (p : Part) (read : p ≡ read_at ts c) (sound : fit_at ts c ≡ true) where
    pub kept_none : noted_part p v net target ≡ None → kept_of ts c v net target ≡ None
    kept_none h = rw (untaken sound p read h) refl

    pub kept_same : noted_part p v net target ≡ None → noted_in ts c v net target ≡ ts
    kept_same h = rw (untaken sound p read h) refl

    pub kept_some : (next : Part) → noted_part p v net target ≡ Some next → kept_of ts c v net target ≡ Some p
    kept_some next h = rw (taken sound p read next h, there sound p read) refl

    pub kept_next : (next : Part) → noted_part p v net target ≡ Some next → noted_in ts c v net target ≡ written ts c next
    kept_next next h = rw (taken sound p read next h, taken-written sound p read next h) refl

  -- where all is fit, a verdict is taken while there is room
  pub taken_by-room : lies ts c ≡ true → part_at_fit ts c ≡ true → is_verdict v ≡ true → is_weight net ≡ true → is_weight target ≡ true
      → takes_at ts c v net target ≡ has_room (part_at ts c).tally
  unfolding takes_at takes_in fit_at takes
  taken_by-room h f g w aim =
      let fit = held-fit ts c f in
      rw (h, f, fit, (fit-part (part_at ts c) fit).tally, g, w, aim) refl
