-- Dates: from a date to its day and back, and from a day to its date and back.
use Rattle.std.specs.Prelude.{Some}
use mathlib.Core.Bool.{true, ◌&&◌}
use mathlib.Core.Path.{◌≡◌, refl, sym, subst}
use Prim.Native.Nat.{ℕ, ◌+◌, ◌-◌, ◌<◌, ◌≤◌}
use native.Mathlib.Omega.{arith}
use borrow.Author.Tests.{le-leb, lt-ltb}
use lib.Dec.{T, leb, leb→le}
use Rattle.calendar.specs.Below.{within}
use Rattle.calendar.specs.Calendar.{leap_year, month_length, month_start, day_of, valid_date, day_of_date, year_day, month_day, date_of, date_of_day}
use Rattle.calendar.proofs.Every.{left, right}
use Rattle.calendar.proofs.Months.{month_ends, month_of_day, InMonth, month_day_holds, month_day_is}
use Rattle.calendar.proofs.Years.{year_length_lem, year_length_range, year_start_next, year_start_mono, year_start_end, InYear, year_day_holds, year_day_is}

-- what a date of the range is
pub record Valid (y m d : ℕ) : Type 0 where
  pub first : 1 ≤ y
  pub last : y ≤ 9999
  pub low : 1 ≤ d
  pub high : d ≤ month_length (leap_year y) m

pub valid : (y m d : ℕ) → valid_date y m d ≡ true → Valid y m d
unfolding valid_date
valid y m d e =
    let t : T (within 1 9999 y && within 1 (month_length (leap_year y) m) d) = subst T (sym e) tt in
    let a = left (within 1 9999 y) _ t in
    let b = right (within 1 9999 y) _ t in
    record {
      first = leb→le _ _ (left (leb 1 y) _ a);
      last = leb→le _ _ (right (leb 1 y) _ a);
      low = leb→le _ _ (left (leb 1 d) _ b);
      high = leb→le _ _ (right (leb 1 d) _ b);
    }

pub is_valid : (y m d : ℕ) → Valid y m d → valid_date y m d ≡ true
unfolding valid_date
is_valid y m d v = simp (le-leb _ _ v.first, le-leb _ _ v.last, le-leb _ _ v.low, le-leb _ _ v.high)

module _ (y m d : ℕ) (v : Valid y m d) where
  months : (1 ≤ m) × (m ≤ 12)
  months = month_of_day (leap_year y) m d v.low v.high

  day_of_year : ℕ
  day_of_year = month_start (leap_year y) m + (d - 1)

  in_month : InMonth (leap_year y) day_of_year (record { month = m; day = d })
  unfolding day_of_year
  in_month = record { january = months.0; december = months.1; first = v.low; last = v.high; whole = refl }

  in_year : InYear (day_of y m d) (record { year = y; day = day_of_year })
  unfolding day_of_year day_of
  in_year =
      record {
        first = v.first;
        last = v.last;
        whole = omega arith;
        short = omega (arith, v.low, v.high, month_ends (leap_year y) m months.1, year_length_lem y);
      }

  -- a date's day is in the range
  pub day_of_date_below : day_of y m d < 3652059
  day_of_date_below =
      omega
      (arith, in_year.whole, in_year.short, year_start_next y v.first, year_start_mono (y + 1) 10000 (omega (arith, v.last)), year_start_end)

  pub date_of_day_of_date : date_of (day_of y m d) ≡ record { year = y; month = m; day = d }
  unfolding date_of day_of_year
  date_of_day_of_date = rw (← year_day_is (day_of y m d) day_of_date_below in_year, ← month_day_is (leap_year y) day_of_year in_month)

-- a day of a year is one of 366
pub place_below : (n : ℕ) → n < 3652059 → (year_day n).day < 366
place_below n h = omega (arith, (year_day_holds n h).short, year_length_range (year_day n).year)

module _ (n : ℕ) (h : n < 3652059) where
  there : InYear n (year_day n)
  there = year_day_holds n h

  month_there : InMonth (leap_year (year_day n).year) (year_day n).day (month_day (leap_year (year_day n).year) (year_day n).day)
  month_there = month_day_holds _ _ (omega (arith, there.short, year_length_lem (year_day n).year))

  -- a day's date is one of the range
  pub date_of_day_valid : Valid (date_of n).year (date_of n).month (date_of n).day
  unfolding date_of
  date_of_day_valid = record { first = there.first; last = there.last; low = month_there.first; high = month_there.last }

  pub day_of_date_of_day : day_of (date_of n).year (date_of n).month (date_of n).day ≡ n
  unfolding date_of day_of
  day_of_date_of_day = omega (arith, there.whole, month_there.whole)

pub day_of_date_is : (y m d : ℕ) → Valid y m d → day_of_date y m d ≡ Some (day_of y m d)
unfolding day_of_date
day_of_date_is y m d v = simp (is_valid y m d v)

-- date → day → date is the identity on every date of the range
pub date_day_date : (y m d : ℕ) → valid_date y m d ≡ true → date_of_day (day_of y m d) ≡ Some (record { year = y; month = m; day = d })
unfolding date_of_day
date_day_date y m d e =
    let v = valid y m d e in
    simp (lt-ltb _ _ (day_of_date_below y m d v), date_of_day_of_date y m d v)

-- day → date → day is the identity on every day of the range
pub day_date_day : (n : ℕ) → n < 3652059 → day_of_date (date_of n).year (date_of n).month (date_of n).day ≡ Some n
unfolding day_of_date
day_date_day n h = simp (is_valid _ _ _ (date_of_day_valid n h), day_of_date_of_day n h)
