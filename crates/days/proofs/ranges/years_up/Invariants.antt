-- What is passed up to a year and in it; the days left fall.
use Prim.Native.Nat.{◌-◌, ◌≤◌}
use Rattle.frames.specs.Numbers.{day_held}
use Rattle.days.specs.Steps.{Passed}
use Rattle.days.proofs.ranges.years_up.Given as goal

abbrev pub invariant-loop-from : goal.invariant-loop-from
invariant-loop-from l = (l.from ≤ l.end) × (Passed (day_held l.f) l.low l.from)

abbrev pub decreases-loop-from : goal.decreases-loop-from
decreases-loop-from l = l.end - l.from
