-- The days of a month of the window, by their day of month.
use mathlib.Core.Logic.{dite}
use mathlib.Core.Path.{◌≡◌, refl, sym, ap}
use Prim.Native.Nat.{ℕ, ◌+◌, ◌-◌, ◌%◌, ◌<◌, ◌≤◌}
use native.Mathlib.Decide.{dec_lt}
use native.Mathlib.Omega.{arith}
use borrow.Author.Tests.{le-ltb}
use Rattle.calendar.proofs.Weekdays.{local_weekday_lem, weekday_below}
use Rattle.calendar.proofs.Windows.{InWindow, local_date_is, month_days_range, month_first_mono, month_first_end}
use Rattle.calendar.specs.Calendar.{weekday_of}
use Rattle.calendar.specs.Window.{month_first, month_days, local_date, local_weekday, from_end}
use Rattle.calendar.specs.declared.year.MonthDay.{MonthDay}
use Rattle.frames.specs.Months.{day_of, InMonth}

pub past_window : (k : ℕ) → 1200 ≤ k → month_days k ≡ 0
unfolding month_days
past_window k h = simp (le-ltb k 1200 h)

first_past_window : (k : ℕ) → 1200 ≤ k → month_first k ≡ 36525
unfolding month_first
first_past_window k h = simp (le-ltb k 1200 h)

-- a month of at least one day is one of the window's
pub in_month : (k n : ℕ) → 1 ≤ n → n ≤ month_days k → InMonth k n
in_month k n l h =
    dite (dec_lt k 1200) (λ (m : k < 1200). record { month = m; low = l; high = h })
    (λ (g : k < 1200 → ⊥). absurd (omega (arith, past_window k (omega arith))))

pub days_at_most : (k : ℕ) → month_days k ≤ 31
days_at_most k =
    dite (dec_lt 0 (month_days k)) (λ (p : 0 < month_days k). (month_days_range k (in_month k (month_days k) p (omega arith)).month).1)
    (λ (g : 0 < month_days k → ⊥). omega arith)

pub first_at_most : (k : ℕ) → month_first k ≤ 36525
first_at_most k =
    dite (dec_lt k 1200) (λ (h : k < 1200). omega (arith, month_first_mono k 1200 (omega arith) (omega arith), month_first_end))
    (λ (g : k < 1200 → ⊥). omega (arith, first_past_window k (omega arith)))

pub weekday_at_most : (n : ℕ) → local_weekday n < 7
weekday_at_most n = rw (local_weekday_lem n) (weekday_below (730119 + n))

module _ (k n : ℕ) (i : InMonth k n) where
  placed : InWindow (day_of k n) (record { month = k; day = n })
  placed = record { last = i.month; low = i.low; high = i.high; whole = refl }

  pub date_of_day_lem : local_date (day_of k n) ≡ record { month = k; day = n }
  date_of_day_lem = sym (local_date_is (day_of k n) placed)

  pub month_of_day : (local_date (day_of k n)).month ≡ k
  month_of_day = ap (λ (q : MonthDay). q.month) date_of_day_lem

  pub day_of_day : (local_date (day_of k n)).day ≡ n
  day_of_day = ap (λ (q : MonthDay). q.day) date_of_day_lem

  pub end_of_day : from_end (day_of k n) ≡ month_days k + 1 - n
  unfolding from_end
  end_of_day = rw date_of_day_lem

  pub weekday_of_day_lem : local_weekday (day_of k n) ≡ (local_weekday (month_first k) + (n - 1)) % 7
  unfolding local_weekday weekday_of
  weekday_of_day_lem = omega arith
