-- "Days and weeks": ISO weeks.
use Rattle.std.specs.Prelude.{Bool, cond, ◌&&◌, ℕ, ◌+◌, ◌-◌, ◌*◌, ◌/◌, ◌%◌, leb, ltb, Option, Some, None}
use Rattle.signed.specs.Bias.{all_days}
use Rattle.calendar.specs.Below.{within}
use Rattle.calendar.specs.Calendar.{day_of, year_day, weekday_of, last_year}
use Rattle.calendar.specs.declared.iso.IsoDate.{IsoDate}

-- "Weeks start on Monday": the Monday of a day's week
unfoldable pub monday_of : ℕ → ℕ
monday_of n = n - (weekday_of n + 6) % 7

-- "ISO week 1 of a year holds that year's 4 January."
unfoldable pub iso_start : ℕ → ℕ
iso_start y = monday_of (day_of y 1 4)

-- the number of a year's weeks: they end where week 1 of the next year starts
unfoldable pub iso_weeks : ℕ → ℕ
iso_weeks y = (iso_start (y + 1) - iso_start y) / 7

unfoldable pub day_of_week : ℕ → ℕ → ℕ → ℕ
day_of_week y w d = iso_start y + 7 * (w - 1) + (d - 1)

-- "ISO dates (year, week, weekday 1 to 7). 9999-W52-6 is past the range and is refused."
unfoldable pub valid_iso : ℕ → ℕ → ℕ → Bool
valid_iso y w d = within 1 last_year y && (within 1 (iso_weeks y) w && (within 1 7 d && ltb (day_of_week y w d) all_days))

-- the day of an ISO date, or outside
unfoldable pub day_of_iso : ℕ → ℕ → ℕ → Option ℕ
day_of_iso y w d = cond (valid_iso y w d) (Some (day_of_week y w d)) None

-- the last year whose week 1 starts no later than the day: the calendar year, or the one after or before it
unfoldable pub iso_year : ℕ → ℕ
iso_year n =
    let y = (year_day n).year in
    cond (leb (iso_start (y + 1)) n) (y + 1) (cond (leb (iso_start y) n) y (y - 1))

-- the ISO date of a day of the range
unfoldable pub iso_of : ℕ → IsoDate
iso_of n =
    let y = iso_year n in
    record { year = y; week = (n - iso_start y) / 7 + 1; weekday = (n - iso_start y) % 7 + 1 }

-- the ISO date of a day, or outside
unfoldable pub iso_of_day : ℕ → Option IsoDate
iso_of_day n = cond (ltb n all_days) (Some (iso_of n)) None
