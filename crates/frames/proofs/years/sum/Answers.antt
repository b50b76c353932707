-- What is passed and the sum of what is left make the whole.
use native.Mathlib.Omega.{arith}
use mathlib.Core.Path.{◌≡◌}
use lib.Pow.{shr-shr}
use Prim.Native.Nat.{◌+◌, ◌*◌, ◌/◌, ◌^◌}
use Rattle.frames.proofs.YearSets.{packed_sum_next, packed_sum_none}
use Rattle.frames.proofs.years.sum.Goals as goal

pub loop-i-preserved : goal.loop-i-preserved
loop-i-preserved c =
    let a = c.args in
    let v = c.loop-i in
    let e : 5 * v.i + 5 ≡ 5 * (v.i + 1) = omega arith in
    let next = rw (shr-shr a.counts (5 * v.i) 5, e) at (packed_sum_next a.n v.i (a.counts / 2 ^ (5 * v.i)) (omega arith)) in
    (omega arith, omega (arith, next))

pub returns : goal.returns
returns c =
    let a = c.args in
    let v = c.loop-i in
    omega (arith, packed_sum_none a.n v.i (a.counts / 2 ^ (5 * v.i)) (omega arith))
