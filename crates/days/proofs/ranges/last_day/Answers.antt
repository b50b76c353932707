-- The days are walked down to a rule's start; before that none is held.
use native.Mathlib.Omega.{arith}
use Rattle.frames.specs.Numbers.{day_held}
use Rattle.days.specs.Search.{last_day}
use Rattle.days.proofs.Answers.{last_is, last_empty}
use Rattle.days.proofs.Walks.{last_all_passed, last_passed_none, last_passed}
use Rattle.days.proofs.ranges.last_day.Goals as goal

pub returns-then-end-low : goal.returns-then-end-low
unfolding last_day
returns-then-end-low c =
    let a = c.args in
    rw (← c.min-end.ensures) (last_empty (day_held a.f.now) a.low c.min-end.result c.if-end-low.true)

pub returns-then-end-from : goal.returns-then-end-from
unfolding last_day
returns-then-end-from c =
    let a = c.args in
    let end = c.min-end in
    rw (← end.ensures)
    (last_is (day_held a.f.now) a.low end.result _ (omega arith)
    (last_all_passed (day_held a.f.now) a.low _ end.result c.begun-from.ensures (omega arith) (omega (arith, end.ensures)) c.if-end-from.true))

pub returns-then-past-from : goal.returns-then-past-from
unfolding last_day
returns-then-past-from c =
    let a = c.args in
    let end = c.min-end in
    rw (← end.ensures)
    (last_is (day_held a.f.now) a.low end.result _ (omega arith)
    (last_passed_none (day_held a.f.now) a.low _ end.result c.begun-from.ensures (omega arith) (omega (arith, end.ensures)) _ (omega arith) c.last_from-past.ensures c.if-past-from.true))

pub returns : goal.returns
unfolding last_day
returns c =
    let a = c.args in
    let end = c.min-end in
    rw (← end.ensures)
    (last_is (day_held a.f.now) a.low end.result _ (omega arith)
    (last_passed (day_held a.f.now) a.low _ end.result c.begun-from.ensures (omega arith) (omega (arith, end.ensures)) _ c.last_from-past.ensures (omega arith)))
