-- The window 2000 to 2099 by month: local days count from 2000-01-01, months from January 2000.
use Rattle.std.specs.Prelude.{cond, ℕ, ◌+◌, ◌-◌, ◌*◌, ◌/◌, ◌%◌, ltb}
use Rattle.calendar.specs.Calendar.{divides, month_start, month_length, month_day, weekday_of}
use Rattle.calendar.specs.Iso.{monday_of}
use Rattle.calendar.specs.declared.year.MonthDay.{MonthDay}

-- "Local minutes count from 2000-01-01 00:00 wall time (day 10,957) to 2099-12-31 23:59, so 0 to 52,595,999": 2000-01-01 counted from
-- 0001-01-01, the window's days, months and minutes, its last minute, and the minutes of a day
abbrev pub window_first : ℕ
window_first = 730119

abbrev pub window_days : ℕ
window_days = 36525

abbrev pub window_months : ℕ
window_months = 1200

abbrev pub window_minutes : ℕ
window_minutes = 52596000

abbrev pub window_last : ℕ
window_last = 52595999

abbrev pub day_minutes : ℕ
day_minutes = 1440

-- the local days before year 2000 + y: of the window's years every fourth is leap, 2000 the first
unfoldable pub window_year : ℕ → ℕ
window_year y = 365 * y + (y + 3) / 4

-- the first local day of a month; past the window, the first day past it
unfoldable pub month_first : ℕ → ℕ
month_first k = cond (ltb k window_months) (window_year (k / 12) + month_start (divides 4 (k / 12)) (k % 12 + 1)) window_days

-- the number of a month's days; past the window none
unfoldable pub month_days : ℕ → ℕ
month_days k = cond (ltb k window_months) (month_length (divides 4 (k / 12)) (k % 12 + 1)) 0

-- the month of a local day, and its day of month; past the window the first month past it, day 0
unfoldable pub local_date : ℕ → MonthDay
local_date n =
    let y = 4 * n / 1461 in
    let q = month_day (divides 4 y) (n - window_year y) in
    cond (ltb n window_days) (record { month = 12 * y + (q.month - 1); day = q.day }) (record { month = window_months; day = 0 })

-- the weekday of a local day, Sunday 0
unfoldable pub local_weekday : ℕ → ℕ
local_weekday n = weekday_of (window_first + n)

-- the number of a local day's Monday week
unfoldable pub local_week : ℕ → ℕ
local_week n = monday_of (window_first + n) / 7

-- a local day's place in its month from the end: the last day is 1
unfoldable pub from_end : ℕ → ℕ
from_end n = month_days (local_date n).month + 1 - (local_date n).day
