-- *Last* by the days of a rule.
use mathlib.Core.Path.{◌≡◌, refl, sym, ap, ◌∙◌}
use Prim.Native.Nat.{ℕ, ◌-◌, ◌/◌, ◌<◌, ◌≤◌}
use native.Mathlib.Omega.{arith}
use borrow.Author.Tests.{le-ltb}
use Rattle.calendar.proofs.Windows.{local_date_holds, month_days_range}
use Rattle.calendar.specs.Window.{local_date, day_minutes, window_days}
use Rattle.days.proofs.Nths.{nth_same}
use Rattle.days.specs.Search.{nth_day}
use Rattle.framed.specs.Framed.{minute_on}
use Rattle.frames.specs.Numbers.{day_held}
use Rattle.frames.specs.Rule.{month_day_allowed, weekday_allowed, in_set, placed, period, counts, rule_day}
use Rattle.frames.specs.declared.Rule.{Rule}
use Rattle.good.proofs.Goods.{rule_row_day}
use Rattle.plan.specs.Rows.{row_of}
use Rattle.plan.specs.declared.Frame.{Frame}
use Rattle.zone.proofs.Good.{by_order}
use Rattle.rules.specs.Ruled.{count_last, ending_at}

-- a day of month, 0 past the window, is a bit of a mask
day_past : (n : ℕ) → window_days ≤ n → (local_date n).day < 64
unfolding local_date
day_past n h = rw (le-ltb n window_days h) (omega arith)

pub day_fits : (n : ℕ) → (local_date n).day < 64
day_fits n =
    by_order n window_days
    (λ (h : n < window_days).
    let a = local_date_holds n h in
    omega (arith, a.high, (month_days_range (local_date n).month a.last).1))
    (day_past n)

-- the days of a rule do not depend on *last*
pub day_with_last : (last : ℕ) (f : Rule) (d : ℕ) → rule_day (ending_at last f) d ≡ rule_day f d
unfolding rule_day counts period in_set month_day_allowed weekday_allowed placed
day_with_last last f d = refl

-- *last* by the day that the search over the frame's row finds
pub count_last_by : (f : Rule) (c d : ℕ) → d ≡ nth_day (row_of (Frame.Rule f)) c (f.start / day_minutes)
    → count_last f c ≡ minute_on f.start d
unfolding count_last nth_day
count_last_by f c d e =
    let first : ℕ = f.start / day_minutes in
    ap (minute_on f.start)
    (sym (e ∙ nth_same (day_held (row_of (Frame.Rule f))) (rule_day f) c (window_days - first) first (λ j l h. rule_row_day f j)))
