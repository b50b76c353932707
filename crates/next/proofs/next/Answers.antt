-- The plan's rows are asked for the next instant.
use borrow.Author.Rules.{rules}
use Rattle.held.specs.Lists.{list_held}
use Rattle.plan.specs.Taken.{load}
use Rattle.plan.specs.Plan.{PlanInstant}
use Rattle.zone.specs.Held.{offsets_of}
use Rattle.next.specs.Instants.{InstantOf, NextOf}
use Rattle.next.specs.Plans.{NextIn}
use Rattle.next.proofs.Answered.{next_same}
use Rattle.next.proofs.Planned.{plan_of_row, row_of_plan}
use Rattle.next.proofs.Ready.{answer_same}
use Rattle.next.proofs.next.Goals as goal

pub returns : goal.returns
unfolding NextIn
returns c =
    answer_same _ _
    (λ fs x a.
    let n : NextOf (InstantOf (list_held a.opened.now.frames.now) (offsets_of a.opened.now.zone.now)) c.args.asked x = let h = a.answered in search rules in
    next_same _ (PlanInstant fs) (plan_of_row fs) (row_of_plan fs) c.args.asked x (rw (a.held, a.zoned) at n))
    (load c.args.plan.now) c.in_plan.result c.in_plan.ensures
