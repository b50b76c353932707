-- The numbers of times and offsets, step by step as they are worked out.
use Rattle.std.specs.Prelude.{Option, None, Some}
use mathlib.Core.Bool.{Bool, true, false, cond, ◌&&◌, and-false}
use mathlib.Core.Path.{◌≡◌, refl, ap, ◌∙◌}
use Prim.Native.Nat.{ℕ, ◌+◌, ◌-◌, ◌*◌, ◌<◌, ◌≤◌}
use native.Mathlib.Omega.{arith}
use borrow.Author.Tests.{le-leb, lt-leb, eq-eqb, ne_eqb}
use lib.Dec.{leb}
use Rattle.calendar.proofs.Every.{within_range}
use Rattle.calendar.specs.Below.{within}
use Rattle.calendar.specs.Calendar.{leap_year, month_length, day_of, valid_date, day_of_date}
use Rattle.calendar.specs.Window.{window_first, window_days, day_minutes}
use Rattle.sheet.proofs.Times.{day_in_window}
use Rattle.sheet.specs.Form.{Time, Shift}
use Rattle.sheet.specs.Range.{time_in_range, minute_of, shift_in_range, shift_minutes, offset_of_shift}
use Rattle.zone.specs.Zone.{bias}
use Rattle.words.specs.Times.{minute_as, offset_as}

-- ---- a time
module _ (t : Time) where
  pub year_before : t.year < 2000 → minute_as t ≡ None
  unfolding time_in_range
  year_before h = simp (lt-leb 2000 t.year h)

  pub year_after : 2099 < t.year → minute_as t ≡ None
  unfolding time_in_range
  year_after h = simp (lt-leb t.year 2099 h, and-false)

  pub hour_outside : 23 < t.hour → minute_as t ≡ None
  unfolding time_in_range
  hour_outside h = simp (lt-leb t.hour 23 h, and-false)

  pub minute_outside : 59 < t.minute → minute_as t ≡ None
  unfolding time_in_range
  minute_outside h = simp (lt-leb t.minute 59 h, and-false)

  pub second_outside : 0 < t.second → minute_as t ≡ None
  unfolding time_in_range
  second_outside h = simp (ne_eqb t.second 0 (λ e. omega arith), and-false)

  module _ (from : 2000 ≤ t.year) (upto : t.year ≤ 2099) (h : t.hour ≤ 23) (n : t.minute ≤ 59) (z : t.second ≡ 0) where
    date : Bool
    date = within 1 (month_length (leap_year t.year) t.month) t.day

    year : within 2000 2099 t.year ≡ true
    year = simp (le-leb 2000 t.year from, le-leb t.year 2099 upto)

    by_date : (b : Bool) → date ≡ b
        → (minute_as t ≡ cond b (Some (minute_of t)) None) × (day_of_date t.year t.month t.day ≡ cond b (Some (day_of t.year t.month t.day)) None)
    unfolding time_in_range date day_of_date valid_date
    by_date true e =
        (rw (year, e, le-leb t.hour 23 h, le-leb t.minute 59 n, eq-eqb t.second 0 z) refl, rw (le-leb 1 t.year (omega arith), le-leb t.year 9999 (omega arith), e) refl)
    by_date false e =
        (rw (year, e) refl, rw (le-leb 1 t.year (omega arith), le-leb t.year 9999 (omega arith), e) refl)

    pub date_outside : None ≡ day_of_date t.year t.month t.day → minute_as t ≡ None
    date_outside g = by_cases date refl
      where
        by_cases : (b : Bool) → date ≡ b → minute_as t ≡ None
        by_cases true e = let f = g ∙ (by_date true e).1 in let z : ◌≡◌ {A = ℕ} 0 1 = cc in absurd (omega arith)
        by_cases false e = (by_date false e).0

    day_in : Option ℕ → ℕ
    day_in (Some d) = d
    day_in None = 0

    -- a day of the window, and the minute worked out from it
    module _ (day : ℕ) (g : Some day ≡ day_of_date t.year t.month t.day) where
      dated : (minute_as t ≡ Some (day_minutes * (day - window_first) + (60 * t.hour + t.minute))) × ((window_first ≤ day) × (day < window_first + window_days))
      unfolding date minute_of day_in
      dated = by_cases date refl
        where
          by_cases : (b : Bool) → date ≡ b
              → (minute_as t ≡ Some (day_minutes * (day - window_first) + (60 * t.hour + t.minute))) × ((window_first ≤ day) × (day < window_first + window_days))
          by_cases true e =
              let d : day ≡ day_of t.year t.month t.day = ap day_in (g ∙ (by_date true e).1) in
              let b = within_range 1 (month_length (leap_year t.year) t.month) t.day e in
              let w = day_in_window t.year t.month t.day from upto b.0 b.1 in
              rw d ((by_date true e).0, w)
          by_cases false e = let f = g ∙ (by_date false e).1 in let z : ◌≡◌ {A = ℕ} 0 1 = cc in absurd (omega arith)

      pub date_is : minute_as t ≡ Some (day_minutes * (day - window_first) + (60 * t.hour + t.minute))
      date_is = dated.0

      pub day_held : (window_first ≤ day) × (day < window_first + window_days)
      day_held = dated.1

-- ---- an offset
module _ (s : Shift) where
  pub hours_outside : 15 ≤ s.hours → offset_as s ≡ None
  unfolding shift_in_range shift_minutes
  hours_outside h = by_sign s.minus
    where
      by_sign : (m : Bool)
          → cond (leb s.minutes 59 && cond m (within 1 720 (60 * s.hours + s.minutes)) (leb (60 * s.hours + s.minutes) 840)) (Some (offset_of_shift s)) None ≡ None
      by_sign true = simp (lt-leb (60 * s.hours + s.minutes) 720 (omega arith), and-false)
      by_sign false = simp (lt-leb (60 * s.hours + s.minutes) 840 (omega arith), and-false)

  pub minutes_outside : 59 < s.minutes → offset_as s ≡ None
  unfolding shift_in_range
  minutes_outside h = simp (lt-leb s.minutes 59 h)

  module _ (h : s.minutes ≤ 59) where
    pub behind_none : s.minus ≡ true → 60 * s.hours + s.minutes < 1 → offset_as s ≡ None
    unfolding shift_in_range shift_minutes
    behind_none m l = simp (m, lt-leb 1 (60 * s.hours + s.minutes) l, and-false)

    pub behind_outside : s.minus ≡ true → 720 < 60 * s.hours + s.minutes → offset_as s ≡ None
    unfolding shift_in_range shift_minutes
    behind_outside m l = simp (m, lt-leb (60 * s.hours + s.minutes) 720 l, and-false)

    pub behind : s.minus ≡ true → 0 < 60 * s.hours + s.minutes → 60 * s.hours + s.minutes ≤ 720 → offset_as s ≡ Some (bias - (60 * s.hours + s.minutes))
    unfolding shift_in_range shift_minutes offset_of_shift
    behind m l e = rw (m, le-leb s.minutes 59 h, le-leb 1 (60 * s.hours + s.minutes) (omega arith), le-leb (60 * s.hours + s.minutes) 720 e) refl

    pub ahead_outside : s.minus ≡ false → 840 < 60 * s.hours + s.minutes → offset_as s ≡ None
    unfolding shift_in_range shift_minutes
    ahead_outside m l = simp (m, lt-leb (60 * s.hours + s.minutes) 840 l, and-false)

    pub ahead : s.minus ≡ false → 60 * s.hours + s.minutes ≤ 840 → offset_as s ≡ Some (bias + (60 * s.hours + s.minutes))
    unfolding shift_in_range shift_minutes offset_of_shift
    ahead m l = rw (m, le-leb s.minutes 59 h, le-leb (60 * s.hours + s.minutes) 840 l) refl

-- ---- by the steps of the code
pub ruleset minutes = (year_before, year_after, hour_outside, minute_outside, second_outside, date_outside, date_is)

pub ruleset offsets = (hours_outside, minutes_outside, behind_none, behind_outside, behind, ahead, ahead_outside)
