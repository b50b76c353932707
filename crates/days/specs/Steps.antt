-- The day test in two parts: what goes by the month, a set of its days, and what goes by the day; and where a walk over days stands.
use Rattle.std.specs.Prelude.{Bool, true, false, cond, ◌&&◌, ◌||◌, List, ◌≡◌, ℕ, ◌+◌, ◌*◌, ◌-◌, ◌/◌, ◌%◌, ◌<◌, ◌≤◌, leb, get_or, set}
use Rattle.calendar.specs.Window.{month_first, month_days, local_date, window_first, day_minutes, window_days, window_months}
use Rattle.masks.specs.Masks.{bit}
use Rattle.frames.specs.Months.{day_of, InMonth}
use Rattle.frames.specs.Numbers.{rule_of, start_month, start_in}
use Rattle.frames.specs.Rule.{counts}
use Rattle.frames.specs.declared.Rule.{Rule}
use Rattle.frames.specs.Kinds.{rule_kind, is_kind, daily_number, weekly_number, yearly_number, is_daily, is_weekly}
use Rattle.frames.specs.Years.{year_placed, year_counts}
use Rattle.days.specs.declared.counted.Periods.{Periods}

-- periods of days, of Monday weeks and of calendar years: a rule's frequency, the number of a day's period, and a period's first day
abbrev pub periods_number : Periods → ℕ
periods_number Periods.Days = daily_number
periods_number Periods.Weeks = weekly_number
periods_number Periods.Years = yearly_number

abbrev pub period_of : Periods → ℕ → ℕ
period_of Periods.Days d = d
period_of Periods.Weeks d = (window_first + d) / 7
period_of Periods.Years d = 4 * d / 1461

abbrev pub begin_of : Periods → ℕ → ℕ
begin_of Periods.Days p = p
begin_of Periods.Weeks p = 7 * p - window_first
begin_of Periods.Years p = 365 * p + (p + 3) / 4

-- how many periods a day's own is past the last that counts
abbrev pub over_of : Rule → Periods → ℕ → ℕ
over_of f q d = (period_of q d - period_of q (f.start / day_minutes)) % f.interval

-- the interval of a daily or weekly rule
unfoldable pub day_counts : Rule → ℕ → Bool
day_counts f d = cond (is_daily f || is_weekly f) (counts f d) true

-- what goes by the day: a rule's start, and that interval
unfoldable pub day_part : List ℕ → ℕ → Bool
day_part l d = cond (is_kind rule_kind l) (leb (start_in l / day_minutes) d && day_counts (rule_of l) d) true

-- a set of days of month k that, with each day's own part, makes up a day test
pub record SetOf (part held : ℕ → Bool) (k set : ℕ) : Type 0 where
  pub decides : (n : ℕ) → InMonth k n → (bit set n && part (day_of k n)) ≡ held (day_of k n)

-- day d lies in month k of the window
pub record Holds (k d : ℕ) : Type 0 where
  pub month : k < window_months
  pub from : month_first k ≤ d
  pub to : d < month_first k + month_days k

-- what a walk keeps beside its frame, and its places in the row
abbrev start_month_place : ℕ
start_month_place = 14

abbrev last_month_place : ℕ
last_month_place = 15

abbrev last_day_place : ℕ
last_day_place = 16

abbrev counts_place : ℕ
counts_place = 17

abbrev pub start_month_in : List ℕ → ℕ
start_month_in l = get_or l start_month_place 0

abbrev pub last_month_in : List ℕ → ℕ
last_month_in l = get_or l last_month_place 0

abbrev pub last_day_in : List ℕ → ℕ
last_day_in l = get_or l last_day_place 0

abbrev pub counts_in : List ℕ → ℕ
counts_in l = get_or l counts_place 0

-- a frame made ready for a walk: the start's month, the last month of the walk, its last day and the counts of its last year stand after
-- the frame's own numbers
unfoldable pub readied : List ℕ → ℕ → ℕ → List ℕ
readied l month day =
    set (set (set (set l start_month_place (start_month l)) last_month_place month) last_day_place day) counts_place (year_counts l (month / 12))

pub record Ready (l : List ℕ) : Type 0 where
  pub begun : start_month_in l ≡ start_month l
  pub ends : Holds (last_month_in l) (last_day_in l)
  pub counted : counts_in l ≡ year_counts l (last_month_in l / 12)

-- a walk that goes by the counts of a year stays in it
pub record InYear (l : List ℕ) (k : ℕ) : Type 0 where
  pub same : year_placed l ≡ true → k / 12 ≡ last_month_in l / 12

-- two days lie in one year, where a frame's positions go by a year's counts
pub record OneYear (l : List ℕ) (d e : ℕ) : Type 0 where
  pub same : year_placed l ≡ true → (local_date d).month / 12 ≡ (local_date e).month / 12

-- the first day of a day's year, and the first after it
abbrev pub year_first : ℕ → ℕ
year_first d = month_first ((local_date d).month / 12 * 12)

abbrev pub year_past : ℕ → ℕ
year_past d = month_first ((local_date d).month / 12 * 12 + 12)

-- where a walk up stands, at day d of month k, not past its last day; and one down
pub record Up (l : List ℕ) (k d : ℕ) : Type 0 where
  pub ready : Ready l
  pub here : Holds k d
  pub before : d ≤ last_day_in l
  pub year : InYear l k

pub record Down (l : List ℕ) (k d : ℕ) : Type 0 where
  pub ready : Ready l
  pub here : Holds k d
  pub after : last_day_in l ≤ d
  pub year : InYear l k

-- no day from low up to high is held
pub record Passed (held : ℕ → Bool) (low high : ℕ) : Type 0 where
  pub rises : low ≤ high
  pub none : (j : ℕ) → low ≤ j → j < high → j < window_days → held j ≡ false
