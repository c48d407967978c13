-- `put_tenths`: the key and the whole divisions, a point, and the tenth behind it. Assumes nothing.
use Prim.Native.Nat.{ℕ, ◌/◌, ◌%◌, ◌^◌, ◌≤◌, ◌<◌}
use mathlib.Core.List.{◌∷◌, append_assoc}
use native.Mathlib.Omega.{arith}
use lib.Dec.{ltb}
use lib.ListN.{length, length-append}
use borrow.Author.Tests.{ltb-true, ltb-false}
use Rattle.laws.proofs.Tests.{by_cases}
use Rattle.decimal.specs.Number.{decimal}
use Rattle.decimal.proofs.Digits.{length_digit, length_more, at_most_20}
use Rattle.print.proofs.Writes.{writes_then, writes-within, writes_as}
use borrow.Author.Rules.{rules}
use Rattle.print.proofs.lines.Lines.put_tenths.Goals as goal

-- one digit of at most 20 stands behind the point
whole-short : (s : ℕ) → s < 2 ^ 64 → length (decimal (s / 10)) ≤ 19
whole-short s h =
    by_cases (ltb s 10)
    (λ e. let lt = ltb-true s 10 e in let l = length_digit (s / 10) (omega arith) in omega arith)
    (λ e. let l = length_more s (ltb-false s 10 e) in let m = at_most_20 s h in omega arith)

pub put_decimal-requires : goal.put_decimal-requires
put_decimal-requires c =
    let a = c.args in
    let both = length-append a.key.now (decimal (a.s / 10)) in
    let short = whole-short a.s (omega arith) in
    let one = length_digit (a.s % 10) (omega arith) in
    search rules

pub returns : goal.returns
returns c =
    let a = c.args in
    let short = whole-short a.s (omega arith) in
    let one = length_digit (a.s % 10) (omega arith) in
    let w = writes_then c.put_count.ensures (writes_then c.put.ensures c.put_decimal.ensures) in
    writes-within (simp length-append (omega arith))
    (writes_as (append_assoc a.key.now (decimal (a.s / 10)) (46 ∷ decimal (a.s % 10))) w)
