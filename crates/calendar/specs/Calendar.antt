-- "Days and weeks": years, months, dates and their days.
use Rattle.std.specs.Prelude.{Bool, true, false, cond, not, ◌&&◌, List, [], ◌∷◌, ℕ, zero, suc, ◌+◌, ◌-◌, ◌*◌, ◌%◌, ltb, eqb, ℤ, pos, negsuc, get_or, take, Option, Some, None}
use Rattle.signed.specs.Bias.{all_days}
use Rattle.calendar.specs.Below.{within}
use Rattle.calendar.specs.declared.date.Date.{Date}
use Rattle.calendar.specs.declared.year.MonthDay.{MonthDay}
use Rattle.calendar.specs.declared.year.YearDay.{YearDay}

abbrev pub divides : ℕ → ℕ → Bool
divides k n = eqb (n % k) 0

-- "A year is leap if 4 divides it, except where 100 does and 400 does not."
unfoldable pub leap_year : ℕ → Bool
leap_year y = divides 4 y && not (divides 100 y && not (divides 400 y))

-- the lengths of the twelve months, in a leap year or another
abbrev pub month_lengths : Bool → List ℕ
month_lengths leap = 31 ∷ cond leap 29 28 ∷ 31 ∷ 30 ∷ 31 ∷ 30 ∷ 31 ∷ 31 ∷ 30 ∷ 31 ∷ 30 ∷ 31 ∷ []

-- the length of month m; what is no month has no day
unfoldable pub month_length : Bool → ℕ → ℕ
month_length leap m = get_or (0 ∷ month_lengths leap) m 0

abbrev pub sum : List ℕ → ℕ
sum [] = 0
sum (x ∷ xs) = x + sum xs

-- the days of the year before its month m
unfoldable pub month_start : Bool → ℕ → ℕ
month_start leap m = sum (take (m - 1) (month_lengths leap))

unfoldable pub year_length : ℕ → ℕ
year_length y = sum (month_lengths (leap_year y))

-- the days of the years 1 to k
unfoldable pub years_before : ℕ → ℕ
years_before zero = 0
years_before (suc k) = years_before k + year_length (suc k)

-- a year starts after all the years before it
unfoldable pub year_start : ℕ → ℕ
year_start y = years_before (y - 1)

unfoldable pub day_of : ℕ → ℕ → ℕ → ℕ
day_of y m d = year_start y + month_start (leap_year y) m + (d - 1)

abbrev pub last_year : ℕ
last_year = 9999

-- "Dates run from 0001-01-01 to 9999-12-31."
unfoldable pub valid_date : ℕ → ℕ → ℕ → Bool
valid_date y m d = within 1 last_year y && within 1 (month_length (leap_year y) m) d

-- the day of a date, or outside
unfoldable pub day_of_date : ℕ → ℕ → ℕ → Option ℕ
day_of_date y m d = cond (valid_date y m d) (Some (day_of y m d)) None

-- the years' lengths are taken off the days one after the other, from year y on and at most k of them
unfoldable pub year_from : ℕ → ℕ → ℕ → YearDay
year_from zero y r = record { year = y; day = r }
year_from (suc k) y r = elim (ltb r (year_length y)) [ true ↦ record { year = y; day = r } | false ↦ year_from k (y + 1) (r - year_length y) ]

-- the year of a day, and the days of that year before it
unfoldable pub year_day : ℕ → YearDay
year_day n = year_from 9998 1 n

-- the months' lengths are taken off the days of a year one after the other, from month m on
unfoldable pub month_from : List ℕ → ℕ → ℕ → MonthDay
month_from [] m r = record { month = m; day = r + 1 }
month_from (l ∷ ls) m r = elim (ltb r l) [ true ↦ record { month = m; day = r + 1 } | false ↦ month_from ls (m + 1) (r - l) ]

-- the month and the day of month of a day of the year, which counts from 0
unfoldable pub month_day : Bool → ℕ → MonthDay
month_day leap r = month_from (month_lengths leap) 1 r

-- the date of a day of the range
unfoldable pub date_of : ℕ → Date
date_of n =
    let p = year_day n in
    let q = month_day (leap_year p.year) p.day in
    record { year = p.year; month = q.month; day = q.day }

-- the date of a day, or outside
unfoldable pub date_of_day : ℕ → Option Date
date_of_day n = cond (ltb n all_days) (Some (date_of n)) None

-- "Weekday (Sunday 0) is the remainder, never negative, of day + 4 by 7": whole weeks are added to a negative day until it is not
unfoldable pub weekday_of_day : ℤ → ℕ
weekday_of_day (pos n) = (n + 4) % 7
weekday_of_day (negsuc n) = (7 * suc n + 4 - suc n) % 7

-- the same, counted from 0001-01-01, a Monday
unfoldable pub weekday_of : ℕ → ℕ
weekday_of n = (n + 1) % 7
