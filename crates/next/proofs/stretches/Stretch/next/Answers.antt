-- The least held minute of the range becomes the earliest instant between the asked one and the best.
use native.Mathlib.Omega.{arith}
use Rattle.calendar.proofs.Leasts.{Least}
use Rattle.held.specs.Lists.{list_held}
use Rattle.next.proofs.Shifts.{list_least_is, none_earliest, least_earliest}
use Rattle.next.proofs.stretches.Stretch.next.Goals as goal
use Rattle.next.proofs.stretches.Stretch.next.Goals.{After-list_least-minute}

-- the least of the range
least : (c : After-list_least-minute) → Least (list_held c.args.fs.now) c.first_after-low.result c.end_at-high.result c.list_least-minute.result
least c =
    list_least_is c.args.fs.now c.first_after-low.result c.end_at-high.result c.list_least-minute.result (omega arith) (omega arith)
    c.list_least-minute.ensures

pub returns-then-high-minute : goal.returns-then-high-minute
returns-then-high-minute c =
    none_earliest _ _ _ _ _ _ c.first_after-low.result c.end_at-high.result (omega arith) (omega arith)
    (λ m f t. (least (goal.at.returns-then-high-minute c).After-list_least-minute).fails m f (omega arith))

pub returns : goal.returns
returns c =
    least_earliest _ _ _ _ _ _ c.first_after-low.result c.end_at-high.result (omega arith) (omega arith) c.list_least-minute.result _
    (omega arith) (least (goal.at.returns c).After-list_least-minute) (omega arith)
