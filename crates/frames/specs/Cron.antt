-- "Cron", read from the masks of a frame.
use Rattle.std.specs.Prelude.{Bool, cond, ◌&&◌, ◌||◌, ℕ, ◌+◌, ◌/◌, ◌%◌}
use Rattle.calendar.specs.Window.{local_date, local_weekday, day_minutes}
use Rattle.masks.specs.Masks.{bit}
use Rattle.frames.specs.declared.Cron.{Cron}

-- T-04: "month or day of month is restricted and day of week is too"; bit 0 of the flags is day of month, bit 1 day of week, bit 2 month
unfoldable pub joined : ℕ → Bool
joined flags = bit flags 1 && (bit flags 0 || bit flags 2)

-- T-04: then "a day is held if it matches month and day of month together, or the day of week alone. Otherwise all three must match."
unfoldable pub cron_day_at : Cron → ℕ → ℕ → ℕ → Bool
cron_day_at f month day weekday =
    let month_day_ok = bit f.months month && bit f.days day in
    let weekday_ok = bit f.weekdays weekday in
    cond (joined f.flags) (month_day_ok || weekday_ok) (month_day_ok && weekday_ok)

unfoldable pub cron_day : Cron → ℕ → Bool
cron_day f d = cron_day_at f ((local_date d).month % 12 + 1) (local_date d).day (local_weekday d)

-- t is a minute of the day, 0 to 1,439
unfoldable pub cron_time : Cron → ℕ → Bool
cron_time f t = bit f.hours (t / 60) && bit f.minutes (t % 60)

unfoldable pub cron_held : Cron → ℕ → Bool
cron_held f m = cron_day f (m / day_minutes) && cron_time f (m % day_minutes)
