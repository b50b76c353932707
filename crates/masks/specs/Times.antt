-- The minutes of a day, 0 to 1,439, that a mask of hours and a mask of minutes hold.
use Rattle.std.specs.Prelude.{Bool, cond, ◌&&◌, ℕ, ◌-◌, ◌/◌, ◌%◌, min, leb}
use Rattle.calendar.specs.Below.{least_from, last_from}
use Rattle.calendar.specs.Window.{day_minutes}
use Rattle.masks.specs.Masks.{bit}

unfoldable pub time_held : ℕ → ℕ → ℕ → Bool
time_held hours minutes t = bit hours (t / 60) && bit minutes (t % 60)

-- the least held minute at or above t; 1,440 where there is none
unfoldable pub next_time : ℕ → ℕ → ℕ → ℕ
next_time hours minutes t = cond (leb t day_minutes) (least_from (time_held hours minutes) (day_minutes - t) t) day_minutes

-- one more than the greatest held minute below t; 0 where there is none
unfoldable pub last_time : ℕ → ℕ → ℕ → ℕ
last_time hours minutes t = last_from (time_held hours minutes) (min t day_minutes) 0
