-- Which refusal the table gives. Assumes nothing.
use mathlib.Core.Path.{◌≡◌, refl}
use mathlib.Core.Bool.{Bool, true, false}
use mathlib.Core.Logic.{◌≢◌}
use Prim.Native.Nat.{ℕ}
use native.Mathlib.Omega.{arith}
use lib.Dec.{eqb}
use Rattle.std.specs.Prelude.{Option, Some, None}
use Rattle.laws.specs.Choice.{when◌then◌else◌}
use Rattle.laws.proofs.Tests.{if_ind, by_cases, clash}
use Rattle.refusal.specs.Table.{memory_no, status_no, emergency_no, paused_no, contradiction_no, safety_no, occupied_no, nothing_no, number_in, table, first_holding}
use Rattle.refusal.specs.declared.Faults.{Faults}
use Rattle.refusal.specs.declared.Refusal.{Refusal}
use Rattle.refusal.specs.declared.Refusal.TheVariants.{Contradiction, Safety, Occupied, Nothing}

-- the rules behind those of the status
abbrev behind : Faults → Option Refusal
behind f =
    when f.contradiction then Some Contradiction
    else (when f.safety then Some Safety
    else (when f.occupied then Some Occupied
    else (when f.nothing then Some Nothing
    else None)))

-- no. 8 is that of memory alone
pub not_eight : (f : Faults) → f.memory ≡ false → number_in (first_holding (table f)) ≢ memory_no
not_eight f h =
    rw h
    (if_ind Other f.form _ _ (λ _ x. omega arith)
    (λ _. if_ind Other f.value _ _ (λ _ x. omega arith)
    (λ _. if_ind Other f.running _ _ (λ _ x. omega arith)
    (λ _. if_ind Other f.emergency _ _ (λ _ x. omega arith)
    (λ _. if_ind Other f.paused _ _ (λ _ x. omega arith)
    (λ _. if_ind Other f.contradiction _ _ (λ _ x. omega arith)
    (λ _. if_ind Other f.safety _ _ (λ _ x. omega arith)
    (λ _. if_ind Other f.occupied _ _ (λ _ x. omega arith)
    (λ _. if_ind Other f.nothing (Some Nothing) None (λ _ x. omega arith) (λ _ x. omega arith))))))))))
  where
    Other : Option Refusal → Type 0
    Other r = number_in r ≢ memory_no

module _ (n : ℕ) where
  abbrev Other : Option Refusal → Type 0
  Other r = eqb (number_in r) n ≡ false

  others : eqb contradiction_no n ≡ false → eqb safety_no n ≡ false → eqb occupied_no n ≡ false → eqb nothing_no n ≡ false → eqb 0 n ≡ false → (f : Faults) → Other (behind f)
  others four five six seven none f =
      if_ind Other f.contradiction _ _ (λ _. four)
      (λ _. if_ind Other f.safety _ _ (λ _. five)
      (λ _. if_ind Other f.occupied _ _ (λ _. six)
      (λ _. if_ind Other f.nothing (Some Nothing) None (λ _. seven) (λ _. none))))

-- where no row before them holds, a number of the status's three is shown exactly where its row alone of the three holds
module _ (f : Faults) (m : f.memory ≡ false) (o : f.form ≡ false) (v : f.value ≡ false) where
  abbrev shown : ℕ
  shown = number_in (first_holding (table f))

  pub running-shown : eqb shown status_no ≡ f.running
  running-shown =
      rw (m, o, v)
      (by_cases f.running (λ t. rw t refl)
      (λ a. rw a
      (if_ind (Other status_no) f.emergency _ _ (λ _. refl)
      (λ _. if_ind (Other status_no) f.paused _ _ (λ _. refl) (λ _. others status_no refl refl refl refl refl f)))))

  pub emergency-shown : (f.emergency ≡ true → f.running ≡ false) → eqb shown emergency_no ≡ f.emergency
  emergency-shown apart =
      rw (m, o, v)
      (by_cases f.emergency (λ t. rw (apart t, t) refl)
      (λ a. rw a
      (if_ind (Other emergency_no) f.running _ _ (λ _. refl)
      (λ _. if_ind (Other emergency_no) f.paused _ _ (λ _. refl) (λ _. others emergency_no refl refl refl refl refl f)))))

  pub paused-shown : (f.paused ≡ true → (f.running ≡ false) × (f.emergency ≡ false)) → eqb shown paused_no ≡ f.paused
  paused-shown apart =
      rw (m, o, v)
      (by_cases f.paused (λ t. let a = apart t in rw (a.0, a.1, t) refl)
      (λ a. rw a
      (if_ind (Other paused_no) f.running _ _ (λ _. refl)
      (λ _. if_ind (Other paused_no) f.emergency _ _ (λ _. refl) (λ _. others paused_no refl refl refl refl refl f)))))

-- no condition of the table holds
pub record NoneHolds (f : Faults) : Type 0 where
  pub memory : f.memory ≡ false
  pub form : f.form ≡ false
  pub value : f.value ≡ false
  pub running : f.running ≡ false
  pub emergency : f.emergency ≡ false
  pub paused : f.paused ≡ false
  pub contradiction : f.contradiction ≡ false
  pub safety : f.safety ≡ false
  pub occupied : f.occupied ≡ false
  pub nothing : f.nothing ≡ false

-- a rule that was passed, and what comes behind it
pub passed : {A : Type 0} (b : Bool) (r : A) (x : Option A) → (when b then Some r else x) ≡ None → (b ≡ false) × (x ≡ None)
passed true r x h = clash (cc)
passed false r x h = (refl, h)

-- that nothing refuses tells it
pub none-holds : (f : Faults) → first_holding (table f) ≡ None → NoneHolds f
none-holds f h =
    let r8 = passed f.memory _ _ h in
    let r1 = passed f.form _ _ r8.1 in
    let r2 = passed f.value _ _ r1.1 in
    let r3 = passed f.running _ _ r2.1 in
    let r9 = passed f.emergency _ _ r3.1 in
    let r10 = passed f.paused _ _ r9.1 in
    let r4 = passed f.contradiction _ _ r10.1 in
    let r5 = passed f.safety _ _ r4.1 in
    let r6 = passed f.occupied _ _ r5.1 in
    let r7 = passed f.nothing _ _ r6.1 in
    record {
      memory = r8.0;
      form = r1.0;
      value = r2.0;
      running = r3.0;
      emergency = r9.0;
      paused = r10.0;
      contradiction = r4.0;
      safety = r5.0;
      occupied = r6.0;
      nothing = r7.0;
    }
