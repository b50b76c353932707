-- The last held minute of the range becomes the latest instant between the best and the asked one.
use native.Mathlib.Omega.{arith}
use Rattle.calendar.proofs.Leasts.{Last}
use Rattle.held.specs.Lists.{list_held}
use Rattle.next.proofs.Shifts.{list_last_is, none_latest, last_latest}
use Rattle.next.proofs.stretches.Stretch.previous.Goals as goal
use Rattle.next.proofs.stretches.Stretch.previous.Goals.{After-list_last-past}

-- the last of the range
last : (c : After-list_last-past) → Last (list_held c.args.fs.now) c.first_after-low.result c.end_at-high.result c.list_last-past.result
last c =
    list_last_is c.args.fs.now c.first_after-low.result c.end_at-high.result c.list_last-past.result (omega arith) (omega arith)
    c.list_last-past.ensures

pub returns-then-past-low : goal.returns-then-past-low
returns-then-past-low c =
    none_latest _ _ _ _ _ _ c.first_after-low.result c.end_at-high.result (omega arith) (omega arith)
    (λ m f t. (last (goal.at.returns-then-past-low c).After-list_last-past).fails m (omega arith) t)

pub overflow_add-result : goal.overflow_add-result
overflow_add-result c = omega (arith, (last (goal.at.overflow_add-result c).After-list_last-past).to)

pub returns : goal.returns
returns c =
    last_latest _ _ _ _ _ _ c.first_after-low.result c.end_at-high.result (omega arith) (omega arith) c.list_last-past.result _
    (omega arith) (last (goal.at.returns c).After-list_last-past) (omega arith)
