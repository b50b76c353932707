-- One search over days: the day found is low's own, from its time on, or a later one, from its first time on.
use Prim.Native.Nat.{◌+◌, ◌/◌, ◌%◌, ◌<◌}
use native.Mathlib.Omega.{arith}
use Rattle.held.specs.Minutes.{time_part}
use Rattle.frames.specs.Numbers.{day_held}
use Rattle.calendar.proofs.Leasts.{Least}
use Rattle.days.proofs.Answers.{least_day_least}
use Rattle.held.proofs.Pairs.{days_none, found_today, found_later, first_time}
use Rattle.held.proofs.minutes.from_time.Goals as goal

pub returns-then-end-found : goal.returns-then-end-found
returns-then-end-found c =
    let a = c.args in
    let l = a.f.now in
    let end = (a.high + 1439) / 1440 in
    let d = least_day_least l (a.low / 1440) end (omega arith) (omega arith) in
    days_none (day_held l) (time_part l) a.low a.high end _ (omega arith) (omega arith) (rw c.least_day-found.ensures d) c.if-end-found.true

pub returns-then-found-day : goal.returns-then-found-day
returns-then-found-day c =
    let a = c.args in
    let l = a.f.now in
    let p = c.requires in
    let end = (a.high + 1439) / 1440 in
    let found = c.least_day-found in
    let d : Least (day_held l) (a.low / 1440) end found.result =
    rw found.ensures (least_day_least l (a.low / 1440) end (omega arith) (omega arith)) in
    rw c.min.ensures
    (found_today (day_held l) (time_part l) a.low a.high found.result a.time (omega arith) c.if-found-day.true (d.passes c.if-end-found.false) p.2 p.3)

pub returns : goal.returns
returns c =
    let a = c.args in
    let l = a.f.now in
    let p = c.requires in
    let end = (a.high + 1439) / 1440 in
    let found = c.least_day-found in
    let d : Least (day_held l) (a.low / 1440) end found.result =
    rw found.ensures (least_day_least l (a.low / 1440) end (omega arith) (omega arith)) in
    let later : a.low / 1440 < found.result = omega (arith, d.from, c.if-found-day.false) in
    let time = c.next_time.ensures in
    rw c.min-2.ensures
    (found_later (day_held l) (time_part l) a.low a.high end found.result _ (omega arith) d c.if-end-found.false later time
    (first_time (day_held l) (time_part l) (a.low % 1440) a.time _ p.2 p.3 time))
