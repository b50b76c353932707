-- Times in range lie in the window.
use mathlib.Core.Bool.{true, ◌&&◌}
use mathlib.Core.Path.{◌≡◌, sym, subst}
use Prim.Native.Nat.{ℕ, ◌+◌, ◌<◌, ◌≤◌}
use native.Mathlib.Omega.{arith}
use lib.Dec.{T, leb, eqb, leb→le}
use Rattle.calendar.proofs.Every.{left, right}
use Rattle.calendar.proofs.Months.{month_ends, month_of_day}
use Rattle.calendar.proofs.Windows.{window_year_lem}
use Rattle.calendar.proofs.Years.{year_length_lem, year_start_mono, year_start_next}
use Rattle.calendar.specs.Below.{within}
use Rattle.calendar.specs.Calendar.{leap_year, month_length, day_of}
use Rattle.calendar.specs.Window.{window_first, window_days, window_minutes, window_year}
use Rattle.sheet.specs.Form.{Time}
use Rattle.sheet.specs.Range.{time_in_range, minute_of}

pub record InRange (t : Time) : Type 0 where
  pub first : 2000 ≤ t.year
  pub last : t.year ≤ 2099
  pub low : 1 ≤ t.day
  pub high : t.day ≤ month_length (leap_year t.year) t.month
  pub hour : t.hour ≤ 23
  pub minute : t.minute ≤ 59

pub in_range_lem : (t : Time) → time_in_range t ≡ true → InRange t
unfolding time_in_range
in_range_lem t e =
    let w : T (within 2000 2099 t.year && (within 1 (month_length (leap_year t.year) t.month) t.day && (leb t.hour 23 && (leb t.minute 59 && eqb t.second 0)))) =
    subst T (sym e) tt in
    let y = left (within 2000 2099 t.year) _ w in
    let more = right (within 2000 2099 t.year) _ w in
    let d = left (within 1 (month_length (leap_year t.year) t.month) t.day) _ more in
    let clock = right (within 1 (month_length (leap_year t.year) t.month) t.day) _ more in
    record {
      first = leb→le _ _ (left (leb 2000 t.year) _ y);
      last = leb→le _ _ (right (leb 2000 t.year) _ y);
      low = leb→le _ _ (left (leb 1 t.day) _ d);
      high = leb→le _ _ (right (leb 1 t.day) _ d);
      hour = leb→le _ _ (left (leb t.hour 23) _ clock);
      minute = leb→le _ _ (left (leb t.minute 59) _ (right (leb t.hour 23) _ clock));
    }

-- a date of the years 2000 to 2099 is a day of the window
pub day_in_window : (y m d : ℕ) → 2000 ≤ y → y ≤ 2099 → 1 ≤ d → d ≤ month_length (leap_year y) m
    → (window_first ≤ day_of y m d) × (day_of y m d < window_first + window_days)
unfolding day_of window_year
day_in_window y m d f l a b =
    let months = month_of_day (leap_year y) m d a b in
    let e = month_ends (leap_year y) m months.1 in (
      omega (arith, year_start_mono 2000 y f, window_year_lem 0 (omega arith)),
      omega (arith, e, year_length_lem y, year_start_next y (omega arith), year_start_mono (y + 1) 2100 (omega arith), window_year_lem 100 (omega arith)),
    )

pub minute_in_window : (t : Time) → time_in_range t ≡ true → minute_of t < window_minutes
unfolding minute_of
minute_in_window t e = let r = in_range_lem t e in
    let d = day_in_window t.year t.month t.day r.first r.last r.low r.high in
    omega (arith, d, r.hour, r.minute)
