-- What a fit setup, a sorter's part of it and a sample in range tell. Assumes nothing.
use mathlib.Core.Path.{◌≡◌}
use mathlib.Core.Bool.{Bool, true, ◌&&◌}
use Prim.Native.Nat.{◌≤◌, ◌%◌}
use lib.Dec.{leb, eqb}
use lib.ListN.{length}
use borrow.Author.Tests.{leb-true, eqb-true}
use Rattle.laws.specs.Choice.{within}
use Rattle.lists.specs.Each.{all_of}
use Rattle.weight.specs.Weight.{is_weight}
use Rattle.laws.proofs.Tests.{both}
use Rattle.event.specs.Setup.{sorter_count, sorter_ranged, is_mode, sorters_ranged, setup_ranged, setup_agrees, setup_fit}
use Rattle.event.specs.Sample.{sample_ranged}
use Rattle.event.specs.declared.Setup.{Setup}
use Rattle.event.specs.declared.SorterSetup.{SorterSetup}
use Rattle.event.specs.declared.Sample.{Sample}

pub record Timers (s : Setup) : Type 0 where
  pub mode : is_mode s.mode ≡ true
  pub tc : s.tc ≤ 9999
  pub tw : s.tw ≤ 9999
  pub tf : s.tf ≤ 9999
  pub some : 1 ≤ s.ta
  pub ta : s.ta ≤ 9999
  pub six : length s.sorters ≡ sorter_count
  pub sorters : all_of sorter_ranged s.sorters ≡ true

-- the tests before those of ta and the sorters
abbrev delays : Setup → Bool
delays s = is_mode s.mode && within 1 2 s.edge && leb s.tc 9999 && leb s.tw 9999 && leb s.tf 9999

pub timers : (s : Setup) → setup_fit s ≡ true → Timers s
unfolding setup_ranged sorters_ranged
timers s h =
    let r = both (setup_ranged s) (setup_agrees s) h in
    let b = both _ (leb s.need 255) r.0 in
    let c = both _ (leb s.stop 255) b.0 in
    let d = both _ (sorters_ranged s) c.0 in
    let ta = both (delays s) (within 1 9999 s.ta) d.0 in
    let tf = both _ (leb s.tf 9999) ta.0 in
    let tw = both _ (leb s.tw 9999) tf.0 in
    let tc = both (is_mode s.mode && within 1 2 s.edge) (leb s.tc 9999) tw.0 in
    let six = both (eqb (length s.sorters) sorter_count) (all_of sorter_ranged s.sorters) d.1 in
    let ta-both = both (leb 1 s.ta) (leb s.ta 9999) ta.1 in
    record {
      mode = (both (is_mode s.mode) (within 1 2 s.edge) tc.0).0;
      tc = leb-true _ _ tc.1;
      tw = leb-true _ _ tw.1;
      tf = leb-true _ _ tf.1;
      some = leb-true _ _ ta-both.0;
      ta = leb-true _ _ ta-both.1;
      six = eqb-true _ _ six.0;
      sorters = six.1;
    }

-- what a sorter in range bounds
pub record SorterTimes (c : SorterSetup) : Type 0 where
  pub ts : within 1 9999 c.ts ≡ true
  pub to : c.to ≤ 9999

pub sorter-times : (c : SorterSetup) → sorter_ranged c ≡ true → SorterTimes c
unfolding sorter_ranged
sorter-times c h =
    let a = both _ (eqb (c.sort % 2) 0) h in
    let b = both _ (leb c.sort 255) a.0 in
    let d = both (within 1 9999 c.ts) (within 1 9999 c.to) b.0 in
    record { ts = d.0; to = leb-true _ _ (both (leb 1 c.to) (leb c.to 9999) d.1).1 }

pub record InRange (s : Sample) : Type 0 where
  pub sensor : s.sensor ≤ 1
  pub emergency : s.emergency ≤ 1
  pub foreign : leb s.foreign 1 ≡ true
  pub safety : leb s.safety 255 ≡ true
  pub gross : is_weight s.gross ≡ true

pub in_range : (s : Sample) → sample_ranged s ≡ true → InRange s
unfolding sample_ranged
in_range s h =
    let a = both _ (is_weight s.gross) h in
    let b = both _ (leb s.safety 255) a.0 in
    let c = both _ (leb s.foreign 1) b.0 in
    let d = both _ (leb s.emergency 1) c.0 in
    record { sensor = leb-true _ _ d.0; emergency = leb-true _ _ d.1; foreign = c.1; safety = b.1; gross = a.1 }
