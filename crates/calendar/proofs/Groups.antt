-- The year of a day by groups of 400, 100 and 4 years: of four centuries, and of four years of a century, the last alone may have a day more.
use mathlib.Core.Logic.{dite}
use mathlib.Core.Path.{◌≡◌, refl, ap}
use Prim.Native.Nat.{ℕ, ◌+◌, ◌-◌, ◌*◌, ◌/◌, ◌<◌, ◌≤◌}
use native.Mathlib.Decide.{dec_lt}
use native.Mathlib.Omega.{arith}
use Rattle.calendar.specs.Calendar.{year_start, year_day}
use Rattle.calendar.proofs.Years.{year_start_closed, year_start_next, InYear, year_day_is}

-- the groups of 4, 100 and 400 years in c centuries and y years
fours : (c y : ℕ) → (100 * c + y) / 4 ≡ 25 * c + y / 4
fours c y = omega arith

hundreds : (c y : ℕ) → y ≤ 99 → (100 * c + y) / 100 ≡ c
hundreds c y h = omega arith

four_hundreds : (c y : ℕ) → y ≤ 99 → (100 * c + y) / 400 ≡ c / 4
four_hundreds c y h = omega arith

-- the days of c centuries, and of y years of a century
centuries_days : (c : ℕ) → 146097 * c / 4 ≡ 36524 * c + c / 4
centuries_days c = omega arith

years_days : (y : ℕ) → 1461 * y / 4 ≡ 365 * y + y / 4
years_days y = omega arith

-- a year starts after the centuries and the years of its own that went before
year_start_grouped : (c y : ℕ) → y ≤ 99 → year_start (100 * c + y + 1) ≡ 146097 * c / 4 + 1461 * y / 4
year_start_grouped c y h =
    let e : 100 * c + y + 1 - 1 ≡ 100 * c + y = omega arith in
    let closed = rw (e, fours c y, hundreds c y h, four_hundreds c y h) at (year_start_closed (100 * c + y + 1)) in
    rw (centuries_days c, years_days y) (omega (arith, closed))

-- of a day of the range: the centuries before it, the days since then, and the years in these
module _ (n c r y : ℕ) (h : n < 3652059) (p : c ≡ (4 * n + 3) / 146097) (q : r ≡ n - 146097 * c / 4) (s : y ≡ (4 * r + 3) / 1461) where
  years_range : (y ≤ 99) × (100 * c + y + 1 ≤ 9999)
  years_range = (omega arith, omega arith)

  -- a century's hundredth year ends with the century
  before_next_year : n < year_start (100 * c + y + 1 + 1)
  before_next_year =
      dite (dec_lt y 99)
      (λ (l : y < 99).
      let e : 100 * c + (y + 1) + 1 ≡ 100 * c + y + 1 + 1 = omega arith in
      omega (arith, year_start_grouped c (y + 1) (omega arith), ap year_start e))
      (λ (l : y < 99 → ⊥).
      let e : 100 * (c + 1) + 0 + 1 ≡ 100 * c + y + 1 + 1 = omega (arith, years_range) in
      omega (arith, year_start_grouped (c + 1) 0 (omega arith), ap year_start e))

  pub in_year_grouped : InYear n (record { year = 100 * c + y + 1; day = r - 1461 * y / 4 })
  in_year_grouped =
      record {
        first = omega arith;
        last = years_range.1;
        whole = omega (arith, year_start_grouped c y years_range.0);
        short = omega (arith, year_start_grouped c y years_range.0, before_next_year, year_start_next (100 * c + y + 1) (omega arith));
      }

-- so the groups give the year of a day
pub year_day_grouped : (n c y : ℕ) → n < 3652059 → c ≡ (4 * n + 3) / 146097 → y ≡ (4 * (n - 146097 * c / 4) + 3) / 1461
    → record { year = 100 * c + y + 1; day = n - 146097 * c / 4 - 1461 * y / 4 } ≡ year_day n
year_day_grouped n c y h p q = year_day_is n h (in_year_grouped n c _ y h p refl q)
