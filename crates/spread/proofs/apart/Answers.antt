-- `apart` meets its contract: a tally fit for a report has n·q - s² from 0 to 10^24.
use Prim.Native.Nat.{◌*◌, ◌≤◌}
use native.Mathlib.Nat.{mul-le-mul}
use native.Mathlib.Omega.{arith}
use Rattle.spread.proofs.Tallies.{fit-facts}
use Rattle.spread.proofs.apart.Goals as goal

pub n_times_q-requires : goal.n_times_q-requires
n_times_q-requires c = (fit-facts c.args.t c.requires).fit

pub sum_squared-requires : goal.sum_squared-requires
sum_squared-requires c = (fit-facts c.args.t c.requires).fit

pub less-requires : goal.less-requires
less-requires c = omega (arith, (fit-facts c.args.t c.requires).apart)

pub by-requires : goal.by-requires
by-requires c =
    let b = (fit-facts c.args.t c.requires).tally.bounds in
    let t = c.args.t in
    let most : t.n * t.squares ≤ 1000000 * 1000000000000000000 = mul-le-mul {n₂ = 1000000} {m₂ = 1000000000000000000} (omega (arith, b)) (omega (arith, b)) in
    omega (arith, most)
