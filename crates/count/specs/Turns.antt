-- The interval of a rule as turns of days: of each the first `width` count, counted from the first day of the start's period on.
use Rattle.std.specs.Prelude.{cond, List, ◌≡◌, ℕ, ◌+◌, ◌-◌, ◌*◌, ◌/◌, ◌%◌, ◌<◌, ◌≤◌, ltb, eqb}
use Rattle.calendar.specs.Window.{day_minutes, window_days, window_first}
use Rattle.frames.specs.Kinds.{frequency_in, weekly_number}
use Rattle.frames.specs.Numbers.{rule_of, start_in}
use Rattle.days.specs.Steps.{day_counts}

abbrev pub width_of : List ℕ → ℕ
width_of l = cond (eqb (frequency_in l) weekly_number) 7 1

abbrev pub start_day : List ℕ → ℕ
start_day l = start_in l / day_minutes

-- the days from the first of the start's period to day j
abbrev pub place_of : ℕ → ℕ → ℕ → ℕ
place_of width start j = window_first + j - (window_first + start) / width * width

pub record Turn (l : List ℕ) (turn : ℕ) : Type 0 where
  pub room : width_of l ≤ turn
  pub small : turn ≤ 300000
  pub counts : (j : ℕ) → start_day l ≤ j → j < window_days → day_counts (rule_of l) j ≡ ltb (place_of (width_of l) (start_day l) j % turn) (width_of l)

-- the same remainders of all numbers of the window
pub record Stride (every r : ℕ) : Type 0 where
  pub low : 1 ≤ r
  pub high : r ≤ window_days + 1
  pub same : (x : ℕ) → x ≤ window_days → x % every ≡ x % r
