-- `exact` reads digit by digit: the number is at least what its first digits are. Assumes nothing.
use borrow.Author.Rules.{rules}
use mathlib.Core.Path.{◌≡◌, refl, ◌∙◌}
use mathlib.Core.List.{List, []}
use Prim.Native.Nat.{ℕ, ◌+◌, ◌-◌, ◌*◌, ◌<◌}
use native.Mathlib.Omega.{arith}
use lib.IntN.{pos}
use lib.ListN.{length, get_or, drop}
use borrow.Author.Tests.{le-leb, lt-leb}
use Rattle.std.specs.Prelude.{None}
use Rattle.exitlog.specs.Entry.{largest, tick_of}
use Rattle.exitlog.specs.Views.{PlainNumber}
use Rattle.exitlog.proofs.Numbers.{number_digits, digits-least, Digit, digit_at, last-digit}
use Rattle.exitlog.proofs.entry.exact.Invariants.{Reads}
use Rattle.exitlog.proofs.entry.exact.Goals as goal

pub loop-i-init : goal.loop-i-init
loop-i-init c = let a = c.args in (omega arith, λ p. number_digits (drop a.at a.line.now) p.n p.is)

module _ (line : List ℕ) (at size i : ℕ) (r : Reads line at size i) (h : i < length line) where
  digit : (p : PlainNumber (drop at line)) → Digit line i size (pos p.n)
  digit p = digit_at line i size (pos p.n) h (r p)

  -- with this digit it is beyond 64 bits, and so it stays
  beyond : largest < size * 10 + (get_or line i 0 - 48) → (p : PlainNumber (drop at line)) → None ≡ tick_of (pos p.n)
  beyond g p =
      let least = digits-least (size * 10 + (get_or line i 0 - 48)) (drop (i + 1) line) p.n [] (digit p).next in
      rw (lt-leb p.n largest (omega (arith, g, least))) refl

  further : (n : ℕ) → n ≡ size * 10 + (get_or line i 0 - 48) → Reads line at n (i + 1)
  further n e p = rw e (digit p).next

pub overflow_sub-line : goal.overflow_sub-line
overflow_sub-line c = let l = c.loop-i in (digit c.args.line.now c.args.at l.size l.i l.invariant.1 (search rules) c.requires).least

pub returns-in_err-checked_mul : goal.returns-in_err-checked_mul
returns-in_err-checked_mul c =
    let l = c.loop-i in
    let a = c.args in
    let over = c.in_err-checked_mul.ensures in
    λ p. c.from_residual.ensures ∙ beyond a.line.now a.at l.size l.i l.invariant.1 (search rules) (omega (arith, over)) p

pub returns-in_err-size : goal.returns-in_err-size
returns-in_err-size c =
    let l = c.loop-i in
    let a = c.args in
    let d = c.from-digit.ensures in
    let ten = c.in_ok-checked_mul.ensures in
    let over = c.in_err-size.ensures in
    λ p. c.from_residual-in_err-size.ensures ∙ beyond a.line.now a.at l.size l.i l.invariant.1 (search rules) (omega (arith, d, ten.1, over)) p

pub loop-i-preserved : goal.loop-i-preserved
loop-i-preserved c =
    let l = c.loop-i in
    let a = c.args in
    let d = c.from-digit.ensures in
    let ten = c.in_ok-checked_mul.ensures in
    let sum = c.in_ok-size.ensures in
    (omega arith, further a.line.now a.at l.size l.i l.invariant.1 (search rules) _ (omega (arith, d, ten.1, sum.1)))

pub returns : goal.returns
returns c =
    let l = c.loop-i in
    let a = c.args in
    λ p.
    let all : l.size ≡ p.n = last-digit a.line.now l.i l.size p.n c.loop-i-test.false (l.invariant.1 p) in
    rw (← all, le-leb l.size largest l.invariant.0) refl
