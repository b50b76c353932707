-- A day that is not held is passed, and so is a month with an empty set; the days left to the walk's last day fall.
use mathlib.Core.Path.{sym, ◌∙◌}
use Prim.Native.Nat.{◌+◌, ◌≤◌}
use native.Mathlib.Omega.{arith}
use Rattle.calendar.proofs.Windows.{month_first_next, month_days_range}
use Rattle.calendar.specs.Window.{month_first}
use Rattle.frames.specs.Numbers.{day_held}
use Rattle.days.specs.Steps.{day_part, SetOf, Up, last_day_in}
use Rattle.days.proofs.Answers.{holds_at}
use Rattle.days.proofs.Walks.{up_month, up_at, up_year, last_day_top, small, passed_on, all_passed, month_passed, last_month_passed}
use Rattle.days.proofs.steps.+day_step_from_day_month_step.Goals as goal

pub day_step-day_test-requires : goal.day_step-day_test-requires
day_step-day_test-requires t c =
    let p = c.requires in
    ((small _ _ _ p.1 p.2).0, rw (sym p.2) at (p.4.decides _ p.1))

pub day_step-overflow_add-d : goal.day_step-overflow_add-d
day_step-overflow_add-d t c =
    let a = c.args in
    let p = c.requires in
    omega (arith, (small a.k a.n a.d p.1 p.2).0)

pub day_step-counted_from-next-requires : goal.day_step-counted_from-next-requires
day_step-counted_from-next-requires t c =
    let a = c.args in
    let p = c.requires in
    omega (arith, (small a.k a.n a.d p.1 p.2).0)

pub day_step-returns-then-f-next : goal.day_step-returns-then-f-next
day_step-returns-then-f-next t c =
    let a = c.args in
    let p = c.requires in
    let l = a.f.now in
    let out = sym c.day_test.ensures ∙ c.if-day_test.false in
    let passed = c.counted_from-next.ensures in
    all_passed (day_held l) a.d _ (last_day_in l) out passed p.0.before (last_day_top l p.0.ready) c.if-f-next.true

pub day_step-overflow_add-n : goal.day_step-overflow_add-n
day_step-overflow_add-n t c =
    let a = c.args in
    let p = c.requires in
    omega (arith, (small a.k a.n a.d p.1 p.2).1, last_day_top a.f.now p.0.ready)

pub day_step-returns-then-n-on : goal.day_step-returns-then-n-on
day_step-returns-then-n-on t c =
    let a = c.args in
    let p = c.requires in
    let l = a.f.now in
    let out =
    sym c.day_test.ensures ∙ c.if-day_test.false in
    let passed = c.counted_from-next.ensures in
    passed_on (day_held l) a.d _ (last_day_in l) out passed p.0.before (last_day_top l p.0.ready) _ c.if-f-next.false c.day_step.ensures

pub day_step-from_day-requires : goal.day_step-from_day-requires
day_step-from_day-requires t c =
    let a = c.args in
    let p = c.requires in
    let next = c.counted_from-next in
    let r : a.d + 1 ≤ next.result = next.ensures.rises in
    let b : next.result ≤ last_day_in a.f.now = c.if-f-next.false in
    (omega (arith, c.decreases), (p.0.ready, b, up_year a.f.now a.k a.d next.result p.0 (omega arith) b))

pub day_step-returns : goal.day_step-returns
day_step-returns t c =
    let a = c.args in
    let p = c.requires in
    let l = a.f.now in
    let out =
    sym c.day_test.ensures ∙ c.if-day_test.false in
    let passed = c.counted_from-next.ensures in
    passed_on (day_held l) a.d _ (last_day_in l) out passed p.0.before (last_day_top l p.0.ready) _ c.if-f-next.false c.from_day.ensures

pub from_day-day_step-requires : goal.from_day-day_step-requires
from_day-day_step-requires t c =
    let a = c.args in
    let p = c.requires in
    let e = c.local_date-place.ensures in
    let h = holds_at a.d (omega (arith, p.1, last_day_top a.f.now p.0)) in (
      omega (arith, c.decreases),
      (rw e (up_at a.f.now a.d p.0 p.1 p.2), rw e h.1, rw e h.2, c.month_days.ensures, c.month_mask-set.ensures),
    )

pub from_day-overflow_add-result : goal.from_day-overflow_add-result
from_day-overflow_add-result t c =
    omega (arith, last_day_top c.args.f.now c.requires.0)

pub from_day-returns-then-f-k : goal.from_day-returns-then-f-k
from_day-returns-then-f-k t c =
    let a = c.args in
    let p = c.requires in
    let k = c.local_date-place.result.month in
    let u : Up a.f.now k a.d =
    rw c.local_date-place.ensures (up_at a.f.now a.d p.0 p.1 p.2) in
    let z : SetOf (day_part a.f.now) (day_held a.f.now) k 0 =
    rw c.if-set-ne0.false at c.month_mask-set.ensures in
    last_month_passed a.f.now k a.d u z c.if-f-k.true

pub from_day-month_step-requires : goal.from_day-month_step-requires
from_day-month_step-requires t c =
    let a = c.args in
    let p = c.requires in
    let k = c.local_date-place.result.month in
    let u : Up a.f.now k a.d =
    rw c.local_date-place.ensures (up_at a.f.now a.d p.0 p.1 p.2) in (
      omega (arith, c.decreases, p.1, u.here.to, month_first_next k u.here.month),
      up_month a.f.now k a.d u c.if-f-k.false,
    )

pub from_day-returns : goal.from_day-returns
from_day-returns t c =
    let a = c.args in
    let p = c.requires in
    let k = c.local_date-place.result.month in
    let u : Up a.f.now k a.d =
    rw c.local_date-place.ensures (up_at a.f.now a.d p.0 p.1 p.2) in
    let z : SetOf (day_part a.f.now) (day_held a.f.now) k 0 =
    rw c.if-set-ne0.false at c.month_mask-set.ensures in
    month_passed a.f.now k a.d u z _ c.month_step.ensures

pub month_step-overflow_add-result : goal.month_step-overflow_add-result
month_step-overflow_add-result t c =
    omega (arith, last_day_top c.args.f.now c.requires.ready)

pub month_step-returns-then-f-k : goal.month_step-returns-then-f-k
month_step-returns-then-f-k t c =
    let a = c.args in
    let z : SetOf (day_part a.f.now) (day_held a.f.now) a.k 0 =
    rw c.if-set-ne0.false at c.passing_mask-set.ensures in
    last_month_passed a.f.now a.k (month_first a.k) c.requires z c.if-f-k.true

pub month_step-month_step-requires : goal.month_step-month_step-requires
month_step-month_step-requires t c =
    let a = c.args in
    let p = c.requires in (
      omega (arith, c.decreases, p.before, month_first_next a.k p.here.month, (month_days_range a.k p.here.month).0),
      up_month a.f.now a.k (month_first a.k) p c.if-f-k.false,
    )

pub month_step-returns : goal.month_step-returns
month_step-returns t c =
    let a = c.args in
    let z : SetOf (day_part a.f.now) (day_held a.f.now) a.k 0 =
    rw c.if-set-ne0.false at c.passing_mask-set.ensures in
    month_passed a.f.now a.k (month_first a.k) c.requires z _ c.month_step.ensures
