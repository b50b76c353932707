-- What comes before a rule's start is passed, and the rest is walked up.
use native.Mathlib.Omega.{arith}
use Rattle.frames.specs.Numbers.{day_held}
use Rattle.days.specs.Search.{least_day}
use Rattle.days.proofs.Answers.{least_is, least_empty}
use Rattle.days.proofs.Walks.{least_all_passed, least_passed}
use Rattle.days.proofs.ranges.least_day.Goals as goal

pub returns-then-end-low : goal.returns-then-end-low
unfolding least_day
returns-then-end-low c =
    let a = c.args in
    rw (← c.min-end.ensures) (least_empty (day_held a.f.now) a.low c.min-end.result c.if-end-low.true)

pub returns-then-end-from : goal.returns-then-end-from
unfolding least_day
returns-then-end-from c =
    let a = c.args in
    let end = c.min-end in
    rw (← end.ensures)
    (least_is (day_held a.f.now) a.low end.result _ (omega arith)
    (least_all_passed (day_held a.f.now) a.low _ end.result c.begun-from.ensures (omega arith) (omega (arith, end.ensures)) c.if-end-from.true))

pub returns : goal.returns
unfolding least_day
returns c =
    let a = c.args in
    let end = c.min-end in
    rw (← end.ensures)
    (least_is (day_held a.f.now) a.low end.result _ (omega arith)
    (least_passed (day_held a.f.now) a.low _ end.result c.begun-from.ensures (omega arith) (omega (arith, end.ensures)) _ (omega arith) c.least_from.ensures))
