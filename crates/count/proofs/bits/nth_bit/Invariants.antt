-- Each turn passes one set bit: what is left to count starts after it.
use mathlib.Core.Path.{◌≡◌}
use Prim.Native.Nat.{◌+◌, ◌-◌, ◌≤◌}
use Rattle.masks.specs.Masks.{bit}
use Rattle.days.specs.Search.{nth_from}
use Rattle.count.proofs.bits.nth_bit.Given as goal

abbrev pub invariant-loop-passed : goal.invariant-loop-passed
invariant-loop-passed l =
    (l.at ≤ 64) × (nth_from (bit l.mask) l.count (64 - l.n) l.n ≡ nth_from (bit l.mask) (l.count + 1 - l._passed) (64 - l.at) l.at)
