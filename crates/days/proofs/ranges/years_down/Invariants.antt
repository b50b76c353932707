-- What is passed down to a year and in it; the days left fall.
use Prim.Native.Nat.{◌-◌, ◌≤◌}
use Rattle.frames.specs.Numbers.{day_held}
use Rattle.days.specs.Steps.{Passed}
use Rattle.days.proofs.ranges.years_down.Given as goal

abbrev pub invariant-loop-past : goal.invariant-loop-past
invariant-loop-past l = (l.low ≤ l.past) × (Passed (day_held l.f) l.past l.end)

abbrev pub decreases-loop-past : goal.decreases-loop-past
decreases-loop-past l = l.past - l.low
