-- The steps of `steps` the other way round: the days left down to the walk's last day fall.
use mathlib.Core.Path.{◌≡◌, sym, ◌∙◌}
use Prim.Native.Nat.{◌+◌, ◌-◌, ◌<◌, ◌≤◌}
use native.Mathlib.Omega.{arith}
use Rattle.calendar.proofs.Windows.{month_days_range}
use Rattle.calendar.specs.Window.{month_first, month_days}
use Rattle.frames.specs.Numbers.{day_held}
use Rattle.days.specs.Steps.{day_part, SetOf, Down, last_day_in}
use Rattle.days.proofs.Answers.{holds_at}
use Rattle.days.proofs.Walks.{down_end, down_month, down_at, down_year, small, month_end_top, passed_back, all_passed_back, month_passed_back, last_month_passed_back}
use Prim.Native.Nat.{◌<◌}
use Rattle.days.proofs.back.+back_from_day_day_back_month_back.Goals as goal

pub back_from_day-day_back-requires : goal.back_from_day-day_back-requires
back_from_day-day_back-requires t c =
    let a = c.args in
    let p = c.requires in
    let e = c.local_date-place.ensures in
    let h = holds_at a.d p.2 in (
      omega (arith, c.decreases),
      (rw e (down_at a.f.now a.d p.0 p.1 p.2 p.3), rw e h.1, rw e h.2, c.month_mask-set.ensures),
    )

pub back_from_day-returns-then-k-f : goal.back_from_day-returns-then-k-f
back_from_day-returns-then-k-f t c =
    let a = c.args in
    let p = c.requires in
    let k = c.local_date-place.result.month in
    let w : Down a.f.now k a.d =
    rw c.local_date-place.ensures (down_at a.f.now a.d p.0 p.1 p.2 p.3) in
    let z : SetOf (day_part a.f.now) (day_held a.f.now) k 0 =
    rw c.if-set-ne0.false at c.month_mask-set.ensures in
    last_month_passed_back a.f.now k a.d w z c.if-k-f.true

pub back_from_day-month_back-requires : goal.back_from_day-month_back-requires
back_from_day-month_back-requires t c =
    let a = c.args in
    let p = c.requires in
    let k = c.local_date-place.result.month in
    let w : Down a.f.now k a.d =
    rw c.local_date-place.ensures (down_at a.f.now a.d p.0 p.1 p.2 p.3) in (
      omega (arith, c.decreases, p.1, w.here.from, down_end a.f.now k a.d w c.if-k-f.false),
      down_month a.f.now k a.d w c.if-k-f.false,
    )

pub back_from_day-returns : goal.back_from_day-returns
back_from_day-returns t c =
    let a = c.args in
    let p = c.requires in
    let k = c.local_date-place.result.month in
    let w : Down a.f.now k a.d =
    rw c.local_date-place.ensures (down_at a.f.now a.d p.0 p.1 p.2 p.3) in
    let z : SetOf (day_part a.f.now) (day_held a.f.now) k 0 =
    rw c.if-set-ne0.false at c.month_mask-set.ensures in
    month_passed_back a.f.now k a.d w z c.if-k-f.false _ c.month_back.ensures

pub day_back-day_test-requires : goal.day_back-day_test-requires
day_back-day_test-requires t c =
    let p = c.requires in
    ((small _ _ _ p.1 p.2).0, rw (sym p.2) at (p.3.decides _ p.1))

pub day_back-overflow_add-result : goal.day_back-overflow_add-result
day_back-overflow_add-result t c =
    let a = c.args in
    let p = c.requires in
    omega (arith, (small a.k a.n a.d p.1 p.2).0)

pub day_back-counted_before-past-requires : goal.day_back-counted_before-past-requires
day_back-counted_before-past-requires t c =
    let a = c.args in
    let p = c.requires in
    omega (arith, (small a.k a.n a.d p.1 p.2).0)

pub day_back-returns-then-past-f : goal.day_back-returns-then-past-f
day_back-returns-then-past-f t c =
    let a = c.args in
    let p = c.requires in
    let l = a.f.now in
    let out = sym c.day_test.ensures ∙ c.if-day_test.false in
    let passed = c.counted_before-past.ensures in
    all_passed_back (day_held l) (last_day_in l) _ a.d out passed p.0.after (small a.k a.n a.d p.1 p.2).0 c.if-past-f.true

pub day_back-returns-then-back-n : goal.day_back-returns-then-back-n
day_back-returns-then-back-n t c =
    let a = c.args in
    let p = c.requires in
    let l = a.f.now in
    let out =
    sym c.day_test.ensures ∙ c.if-day_test.false in
    let passed = c.counted_before-past.ensures in
    passed_back (day_held l) (last_day_in l) _ a.d out passed p.0.after (small a.k a.n a.d p.1 p.2).0 _ c.if-past-f.false c.day_back.ensures

pub day_back-back_from_day-requires : goal.day_back-back_from_day-requires
day_back-back_from_day-requires t c =
    let a = c.args in
    let p = c.requires in
    let past = c.counted_before-past in
    let r : past.result ≤ a.d = past.ensures.rises in
    let b : last_day_in a.f.now < past.result = c.if-past-f.false in
    (omega (arith, c.decreases), (p.0.ready, omega arith, omega (arith, (small a.k a.n a.d p.1 p.2).0), down_year a.f.now a.k a.d (past.result - 1) p.0 (omega arith) (omega arith)))

pub day_back-returns : goal.day_back-returns
day_back-returns t c =
    let a = c.args in
    let p = c.requires in
    let l = a.f.now in
    let out =
    sym c.day_test.ensures ∙ c.if-day_test.false in
    let passed = c.counted_before-past.ensures in
    passed_back (day_held l) (last_day_in l) _ a.d out passed p.0.after (small a.k a.n a.d p.1 p.2).0 _ c.if-past-f.false c.back_from_day.ensures

pub month_back-overflow_add-month_first : goal.month_back-overflow_add-month_first
month_back-overflow_add-month_first t c =
    omega (arith, c.month_first.ensures, c.month_days-len.ensures, month_end_top c.args.k c.requires.here.month)

pub month_back-returns-then-k-f : goal.month_back-returns-then-k-f
month_back-returns-then-k-f t c =
    let a = c.args in
    let p = c.requires in
    let z : SetOf (day_part a.f.now) (day_held a.f.now) a.k 0 =
    rw c.if-set-ne0.false at c.passing_mask-set.ensures in
    let q : month_first a.k + month_days a.k - 1 + 1 ≡ month_first a.k + month_days a.k =
    omega (arith, (month_days_range a.k p.here.month).0) in
    rw q at (last_month_passed_back a.f.now a.k (month_first a.k + month_days a.k - 1) p z c.if-k-f.true)

pub month_back-month_back-requires : goal.month_back-month_back-requires
month_back-month_back-requires t c =
    let a = c.args in
    let p = c.requires in
    let d = month_first a.k + month_days a.k - 1 in (
      omega (arith, c.decreases, p.after, down_end a.f.now a.k d p c.if-k-f.false, (month_days_range a.k p.here.month).0),
      down_month a.f.now a.k d p c.if-k-f.false,
    )

pub month_back-returns : goal.month_back-returns
month_back-returns t c =
    let a = c.args in
    let p = c.requires in
    let z : SetOf (day_part a.f.now) (day_held a.f.now) a.k 0 =
    rw c.if-set-ne0.false at c.passing_mask-set.ensures in
    let q : month_first a.k + month_days a.k - 1 + 1 ≡ month_first a.k + month_days a.k =
    omega (arith, (month_days_range a.k p.here.month).0) in
    rw q at (month_passed_back a.f.now a.k (month_first a.k + month_days a.k - 1) p z c.if-k-f.false _ c.month_back.ensures)
