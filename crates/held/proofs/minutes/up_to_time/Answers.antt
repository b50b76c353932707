-- One search over days: the day found is the last one of the range, up to its time, or an earlier one, up to its last time.
use mathlib.Core.Path.{◌≡◌, refl, sym, ap, ◌∙◌}
use Prim.Native.Nat.{◌+◌, ◌-◌, ◌*◌, ◌/◌}
use native.Mathlib.Omega.{arith}
use Rattle.held.specs.Minutes.{time_part}
use Rattle.frames.specs.Numbers.{day_held}
use Rattle.calendar.proofs.Leasts.{Last}
use Rattle.days.proofs.Answers.{last_day_last}
use Rattle.held.proofs.Pairs.{days_last_none, last_today, last_earlier, last_time_lem}
use Rattle.held.proofs.minutes.up_to_time.Goals as goal

pub returns-then-past-from : goal.returns-then-past-from
returns-then-past-from c =
    let a = c.args in
    let l = a.f.now in
    let end = (a.high - 1) / 1440 + 1 in
    let d = last_day_last l (a.low / 1440) end (omega arith) (omega arith) in
    days_last_none (day_held l) (time_part l) a.low a.high end _ (omega arith) (omega arith) (rw c.last_day-past.ensures d) c.if-past-from.true

pub returns-then-day-past : goal.returns-then-day-past
returns-then-day-past c =
    let a = c.args in
    let l = a.f.now in
    let p = c.requires in
    let end = (a.high - 1) / 1440 + 1 in
    let past = c.last_day-past in
    let d : Last (day_held l) (a.low / 1440) end past.result =
    rw past.ensures (last_day_last l (a.low / 1440) end (omega arith) (omega arith)) in
    let e : past.result - 1 ≡ (a.high - 1) / 1440 = omega (arith, d.to) in
    rw c.max.ensures
    (last_today (day_held l) (time_part l) a.low a.high ((a.high - 1) / 1440) a.time p.0 refl (sym (ap (day_held l) e) ∙ d.passes (omega arith)) p.2 p.3)

pub returns : goal.returns
returns c =
    let a = c.args in
    let l = a.f.now in
    let p = c.requires in
    let end = (a.high - 1) / 1440 + 1 in
    let past = c.last_day-past in
    let d : Last (day_held l) (a.low / 1440) end past.result =
    rw past.ensures (last_day_last l (a.low / 1440) end (omega arith) (omega arith)) in
    let time = c.last_time.ensures in
    rw c.max-2.ensures
    (last_earlier (day_held l) (time_part l) a.low a.high past.result _ p.0 d (omega arith) (omega arith) time
    (last_time_lem (day_held l) (time_part l) (a.high - 1440 * ((a.high - 1) / 1440)) a.time _ (omega arith) p.2 p.3 time))
