-- The window by month: where its years and months start, and that it agrees with the full calendar.
use mathlib.Core.Bool.{Bool, true, false, cond, beq}
use mathlib.Core.Logic.{dite}
use mathlib.Core.Path.{◌≡◌, refl, sym, ap, ◌∙◌}
use Prim.Native.Nat.{ℕ, zero, suc, ◌+◌, ◌-◌, ◌*◌, ◌/◌, ◌%◌, ◌<◌, ◌≤◌}
use native.Mathlib.Decide.{dec_lt}
use native.Mathlib.Omega.{arith}
use borrow.Author.Tests.{lt-ltb, eqb-true, eqb-false}
use lib.Dec.{T, leb, leb→le, eqb, eqb→eq}
use Rattle.calendar.specs.Below.{every_below, within}
use Rattle.calendar.specs.Calendar.{divides, leap_year, month_start, month_length, year_length, years_before, year_start, day_of, date_of, month_day}
use Rattle.calendar.specs.Window.{window_year, month_first, month_days, local_date}
use Rattle.calendar.specs.declared.year.MonthDay.{MonthDay}
use Rattle.calendar.proofs.Dates.{Valid, date_of_day_of_date}
use Rattle.calendar.proofs.Every.{left, right, every}
use Rattle.calendar.proofs.Months.{InMonth, month_day_holds, month_day_same}
use Rattle.calendar.proofs.Years.{leap_day, small, trichotomy}

same_bool : (a b : Bool) → T (beq a b) → a ≡ b
same_bool true true t = refl
same_bool true false t = absurd t
same_bool false true t = absurd t
same_bool false false t = refl

-- 2000 is leap, and no other century falls into the window
fourth : ℕ → Bool
fourth y = beq (leap_year (2000 + y)) (divides 4 y)

all_fourth : T (every_below fourth 100)
unfolding fourth leap_year
all_fourth = tt

pub window_leap : (y : ℕ) → y < 100 → leap_year (2000 + y) ≡ divides 4 y
unfolding fourth
window_leap y h = same_bool _ _ (every fourth 100 all_fourth y h)

-- 2000-01-01 is day 730,119, or 10,957 from 1970 on
from_2000 : ℕ → Bool
from_2000 y = eqb (year_start (2000 + y)) (730119 + window_year y)

all_from_2000 : T (every_below from_2000 101)
unfolding from_2000 window_year year_start years_before year_length leap_year
all_from_2000 = tt

pub window_year_lem : (y : ℕ) → y ≤ 100 → year_start (2000 + y) ≡ 730119 + window_year y
unfolding from_2000
window_year_lem y h = eqb→eq _ _ (every from_2000 101 all_from_2000 y (omega arith))

divided : (y : ℕ) (b : Bool) → divides 4 y ≡ b → (y + 1 + 3) / 4 ≡ (y + 3) / 4 + cond b 1 0
divided y true e = omega (arith, eqb-true (y % 4) 0 e)
divided y false e = omega (arith, eqb-false (y % 4) 0 e)

-- the year of a local day
pub record InWindowYear (n : ℕ) : Type 0 where
  pub last : 4 * n / 1461 ≤ 99
  pub from : window_year (4 * n / 1461) ≤ n
  pub short : n - window_year (4 * n / 1461) < cond (divides 4 (4 * n / 1461)) 366 365

pub in_window_year : (n : ℕ) → n < 36525 → InWindowYear n
unfolding window_year
in_window_year n h =
    record { last = omega arith; from = omega arith; short = omega (arith, divided (4 * n / 1461) (divides 4 (4 * n / 1461)) refl, leap_day (divides 4 (4 * n / 1461))) }

pub window_place : (n : ℕ) → n < 36525 → (window_year (4 * n / 1461) ≤ n) × (n - window_year (4 * n / 1461) < 366)
window_place n h = let a = in_window_year n h in (a.from, omega (arith, a.short, leap_day (divides 4 (4 * n / 1461)), small (divides 4 (4 * n / 1461))))

-- months within the window
month_year : (k : ℕ) → k < 1200 → k / 12 < 100
month_year k h = omega arith

pub month_first_is : (k : ℕ) → k < 1200 → month_first k ≡ window_year (k / 12) + month_start (divides 4 (k / 12)) (k % 12 + 1)
unfolding month_first
month_first_is k h = simp (lt-ltb k 1200 h)

pub month_days_is : (k : ℕ) → k < 1200 → month_days k ≡ month_length (divides 4 (k / 12)) (k % 12 + 1)
unfolding month_days
month_days_is k h = simp (lt-ltb k 1200 h)

-- the first day of a month and its length are those of the full calendar
pub window_month_first : (k : ℕ) → k < 1200 → day_of (2000 + k / 12) (k % 12 + 1) 1 ≡ 730119 + month_first k
unfolding day_of
window_month_first k h =
    omega (
      arith,
      month_first_is k h,
      window_year_lem (k / 12) (omega arith),
      ap (λ (b : Bool). month_start b (k % 12 + 1)) (window_leap (k / 12) (month_year k h)),
    )

pub window_month_days : (k : ℕ) → k < 1200 → month_length (leap_year (2000 + k / 12)) (k % 12 + 1) ≡ month_days k
window_month_days k h = ap (λ (b : Bool). month_length b (k % 12 + 1)) (window_leap (k / 12) (month_year k h)) ∙ sym (month_days_is k h)

-- a month ends where the next starts, the last at the window's end
next_first : ℕ → Bool
next_first k = eqb (month_first (k + 1)) (month_first k + month_days k)

all_next_first : T (every_below next_first 1200)
unfolding next_first month_first month_days window_year month_start month_length
all_next_first = tt

pub month_first_next : (k : ℕ) → k < 1200 → month_first (k + 1) ≡ month_first k + month_days k
unfolding next_first
month_first_next k h = eqb→eq _ _ (every next_first 1200 all_next_first k h)

pub month_first_mono : (j k : ℕ) → j ≤ k → k ≤ 1200 → month_first j ≤ month_first k
month_first_mono j zero h l = let e : j ≡ 0 = omega arith in rw e (omega arith)
month_first_mono j (suc k) h l =
    dite (dec_lt k j) (λ (g : k < j). let e : j ≡ suc k = omega arith in rw e (omega arith))
    (λ (g : k < j → ⊥).
    let e : k + 1 ≡ suc k = omega arith in
    omega (arith, month_first_mono j k (omega arith) (omega arith), month_first_next k (omega arith), ap month_first e))

pub month_first_end : month_first 1200 ≡ 36525
unfolding month_first
month_first_end = refl

pub month_first_below : (k : ℕ) → k < 1200 → window_year (k / 12) + month_start (divides 4 (k / 12)) (k % 12 + 1) ≤ 36525
month_first_below k h = omega (arith, month_first_is k h, month_first_mono k 1200 (omega arith) (omega arith), month_first_end)

-- a month has 28 to 31 days
common_length : ℕ → Bool
common_length k = within 28 31 (month_days k)

all_common_length : T (every_below common_length 1200)
unfolding common_length month_days month_length
all_common_length = tt

pub month_days_range : (k : ℕ) → k < 1200 → (28 ≤ month_days k) × (month_days k ≤ 31)
unfolding common_length
month_days_range k h =
    let t : T (within 28 31 (month_days k)) = every common_length 1200 all_common_length k h in
    (leb→le _ _ (left (leb 28 (month_days k)) _ t), leb→le _ _ (right (leb 28 (month_days k)) _ t))

-- the place of a local day in its year
abbrev year_of : ℕ → ℕ
year_of n = 4 * n / 1461

abbrev place_of : ℕ → MonthDay
place_of n = month_day (divides 4 (year_of n)) (n - window_year (year_of n))

-- what the month and the day of month of a local day are
pub record InWindow (n : ℕ) (q : MonthDay) : Type 0 where
  pub last : q.month < 1200
  pub low : 1 ≤ q.day
  pub high : q.day ≤ month_days q.month
  pub whole : month_first q.month + (q.day - 1) ≡ n

module _ (n : ℕ) (h : n < 36525) where
  pub local_place : InMonth (divides 4 (year_of n)) (n - window_year (year_of n)) (place_of n)
  local_place = month_day_holds (divides 4 (year_of n)) (n - window_year (year_of n)) (in_window_year n h).short

  pub place_month : (1 ≤ (place_of n).month) × ((place_of n).month ≤ 12)
  place_month = (local_place.january, local_place.december)

  local_is : local_date n ≡ record { month = 12 * year_of n + ((place_of n).month - 1); day = (place_of n).day }
  unfolding local_date
  local_is = simp (lt-ltb n 36525 h)

  month_is : (local_date n).month ≡ 12 * year_of n + ((place_of n).month - 1)
  month_is = ap (λ (q : MonthDay). q.month) local_is

  month_below : (local_date n).month < 1200
  month_below = omega (arith, month_is, local_place.december, (in_window_year n h).last)

  pub year_of_day : (local_date n).month / 12 ≡ year_of n
  year_of_day = omega (arith, month_is, local_place.january, local_place.december)

  month_of_year : (local_date n).month % 12 + 1 ≡ (place_of n).month
  month_of_year = omega (arith, month_is, local_place.january, local_place.december)

  day_is : (local_date n).day ≡ (place_of n).day
  day_is = ap (λ (q : MonthDay). q.day) local_is

  pub local_date_holds : InWindow n (local_date n)
  local_date_holds =
      record {
        last = month_below;
        low = omega (arith, day_is, local_place.first);
        high = rw (month_days_is (local_date n).month month_below, year_of_day, month_of_year, day_is) local_place.last;
        whole = rw (month_first_is (local_date n).month month_below, year_of_day, month_of_year, day_is)
            (omega (arith, local_place.whole, (in_window_year n h).from));
      }

earlier : (n : ℕ) (p q : MonthDay) → InWindow n p → InWindow n q → p.month < q.month → ⊥
earlier n p q a b l =
    omega (
      arith,
      a.low,
      a.high,
      a.whole,
      b.whole,
      month_first_next p.month a.last,
      month_first_mono (p.month + 1) q.month (omega arith) (omega (arith, b.last)),
    )

-- a local day has one month and one day of month
pub in_window_unique : (n : ℕ) {p q : MonthDay} → InWindow n p → InWindow n q → p ≡ q
in_window_unique n {p} {q} a b =
    let l = earlier n p q a b in
    let g = earlier n q p b a in
    let e : p.month ≡ q.month = trichotomy p.month q.month l g in
    month_day_same e (omega (arith, a.low, b.low, a.whole, b.whole, ap month_first e))

-- and every place of a month is a local day
pub in_window_below : (n : ℕ) {q : MonthDay} → InWindow n q → n < 36525
in_window_below n {q} a =
    omega (
      arith,
      a.low,
      a.high,
      a.whole,
      month_first_next q.month a.last,
      month_first_mono (q.month + 1) 1200 (omega (arith, a.last)) (omega arith),
      month_first_end,
    )

pub local_date_is : (n : ℕ) {q : MonthDay} → InWindow n q → q ≡ local_date n
local_date_is n a = in_window_unique n a (local_date_holds n (in_window_below n a))

-- the month and the day of month of a local day are those of the full calendar
pub window_date : (n : ℕ) → n < 36525
    → date_of (730119 + n) ≡ record { year = 2000 + (local_date n).month / 12; month = (local_date n).month % 12 + 1; day = (local_date n).day }
unfolding day_of
window_date n h =
    let k = (local_date n).month in
    let d = (local_date n).day in
    let a = local_date_holds n h in
    let v : Valid (2000 + k / 12) (k % 12 + 1) d = record {
      first = omega arith;
      last = omega (arith, a.last);
      low = a.low;
      high = rw (window_month_days k a.last) a.high;
    } in
    let e : day_of (2000 + k / 12) (k % 12 + 1) d ≡ 730119 + n = omega (arith, window_month_first k a.last, a.whole) in
    ap date_of (sym e) ∙ date_of_day_of_date _ _ _ v
