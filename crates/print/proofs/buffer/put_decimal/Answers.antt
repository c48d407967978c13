-- `put_decimal`: before each pass, the digits of m put in front of what stands there are the whole number. Assumes nothing.
use Prim.Native.Nat.{◌+◌, ◌-◌, ◌/◌, ◌%◌, ◌<◌}
use mathlib.Core.Path.{◌≡◌, sym, ap, ◌∙◌}
use native.Mathlib.Omega.{arith}
use lib.ListN.{length, length-set}
use Rattle.decimal.specs.Number.{decimal}
use Rattle.print.specs.Steps.{with_text_at}
use Rattle.print.proofs.Put.{put_one, put_last}
use Rattle.decimal.proofs.Digits.{decimal_digit, decimal-more, length_digit, length_more}
use Rattle.print.proofs.buffer.put_decimal.Goals as goal

pub loop-m-preserved : goal.loop-m-preserved
loop-m-preserved c =
    let l = c.loop-m in
    let at = c.args.at in
    let more = decimal-more l.m c.loop-m-test.true in
    let longer = length_more l.m c.loop-m-test.true in
    let e : l.place - 1 ≡ at + length (decimal (l.m / 10)) = omega arith in
    let room : at + length (decimal (l.m / 10)) < length l.out = omega arith in (
      e,
      omega arith,
      length-set l.out (l.place - 1) c.digit.result ∙ l.invariant.2,
      rw (e, c.digit.ensures) (put_last l.out at (decimal (l.m / 10)) (48 + l.m % 10) room ∙ ap (with_text_at l.out at) (sym more) ∙ l.invariant.3),
    )

pub returns : goal.returns
returns c =
    let l = c.loop-m in
    let at = c.args.at in
    let one = decimal_digit l.m c.loop-m-test.false in
    let size = length_digit l.m c.loop-m-test.false in
    let room : at < length l.out = omega arith in
    record {
      bytes = rw c.digit-2.ensures (put_one l.out at (48 + l.m) room ∙ ap (with_text_at l.out at) (sym one) ∙ l.invariant.3);
      place = omega arith;
      fits = c.requires;
      short = omega arith;
    }
