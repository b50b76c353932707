-- The days of a month that a frame holds, as a mask.
use Rattle.std.specs.Prelude.{Bool, true, false, List, ◌≡◌, ℕ, ◌/◌, ◌<◌, ◌≤◌}
use Rattle.calendar.specs.Window.{month_days, window_days}
use Rattle.frames.specs.Months.{day_of, month_set, InMonth}
use Rattle.frames.specs.Numbers.{day_held, start_month}
use Rattle.frames.specs.Years.{year_counts}
use Rattle.masks.specs.Masks.{bit}

-- the days of month k that go by the month
abbrev pub set_of : List ℕ → ℕ → ℕ
set_of l k = month_set l (start_month l) (year_counts l (k / 12)) k

pub record HeldSet (l : List ℕ) (k set : ℕ) : Type 0 where
  pub decides : (n : ℕ) → InMonth k n → bit set n ≡ day_held l (day_of k n)
  pub none : (n : ℕ) → month_days k < n → bit set n ≡ false

-- every day from d on passes
pub record AllFrom (test : ℕ → Bool) (d : ℕ) : Type 0 where
  pub passes : (j : ℕ) → d ≤ j → j < window_days → test j ≡ true
