-- The status refuses by one row alone. Assumes nothing.
use mathlib.Core.Path.{◌≡◌, sym, ◌∙◌}
use mathlib.Core.Bool.{Bool, true, false, ◌&&◌, and-false}
use Prim.Native.Nat.{ℕ, ◌≤◌}
use native.Mathlib.Omega.{arith}
use lib.Dec.{eqb}
use borrow.Author.Tests.{eqb-true, eqb-false, ne_eqb}
use Rattle.laws.proofs.Tests.{both}
use Rattle.event.specs.declared.Event.{Event}
use Rattle.event.specs.declared.Setup as setup
use Rattle.event.specs.declared.Event.TheVariants.{Setup}
use Rattle.status.specs.Status.{stopped, running, paused, emergency}
use Rattle.refusal.specs.Rows.{refused_running, refused_in_emergency, refused_paused}

-- a status is one of them alone
other-status : (s k n : ℕ) (a b : Bool) → b && eqb s k ≡ true → (k ≡ n → ⊥) → a && eqb s n ≡ false
other-status s k n a b h d =
    rw (ne_eqb s n (λ e. d (sym (eqb-true s k (both b (eqb s k) h).1) ∙ e))) (and-false a)

module _ (s : ℕ) (e : Event) where
  pub emergency-apart : refused_in_emergency s e ≡ true → refused_running s e ≡ false
  unfolding refused_in_emergency refused_running
  emergency-apart h = other-status s emergency running _ _ h (λ z. omega arith)

  pub paused-apart : refused_paused s e ≡ true → (refused_running s e ≡ false) × (refused_in_emergency s e ≡ false)
  unfolding refused_paused refused_in_emergency refused_running
  paused-apart h =
      (other-status s paused running _ _ h (λ z. omega arith), other-status s paused emergency _ _ h (λ z. omega arith))

-- a setup passes in stopped status alone
pub setup-stopped : (s : ℕ) (x : setup.Setup) → s ≤ 3 → refused_running s (Setup x) ≡ false → refused_in_emergency s (Setup x) ≡ false → refused_paused s (Setup x) ≡ false → s ≡ stopped
unfolding refused_paused refused_in_emergency refused_running
setup-stopped s x low r m p =
    let nr = eqb-false s running r in
    let nm = eqb-false s emergency m in
    let np = eqb-false s paused p in
    omega arith
