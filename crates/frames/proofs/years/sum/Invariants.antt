-- What is passed and the sum of what is left make the whole.
use mathlib.Core.Path.{◌≡◌}
use Prim.Native.Nat.{◌+◌, ◌-◌, ◌*◌, ◌/◌, ◌^◌, ◌≤◌}
use Rattle.frames.specs.Years.{packed_sum}
use Rattle.frames.proofs.years.sum.Given as goal

abbrev pub invariant-loop-i : goal.invariant-loop-i
invariant-loop-i l = (l.passed ≤ 31 * l.i) × (l.passed + packed_sum (l.n - l.i) (l.counts / 2 ^ (5 * l.i)) ≡ packed_sum l.n l.counts)
