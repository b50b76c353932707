-- Opens every definition of the crate and of those below it at once, for the files that compute them.
use Rattle.calendar.specs.Below.{least_from, last_from}
use Rattle.calendar.specs.Calendar.{leap_year, month_length, month_start, year_length, years_before, year_start, day_of, valid_date, day_of_date, year_from, year_day, month_from, month_day, date_of, date_of_day, weekday_of_day, weekday_of}
use Rattle.calendar.specs.Iso.{monday_of, iso_start, iso_weeks, day_of_week, valid_iso, day_of_iso, iso_year, iso_of, iso_of_day}
use Rattle.calendar.specs.Window.{window_year, month_first, month_days, local_date, local_weekday, local_week, from_end}

unfoldable pub opened : Unit {0}
unfolding least_from last_from leap_year month_length month_start year_length years_before year_start day_of valid_date day_of_date year_from year_day month_from month_day date_of date_of_day weekday_of_day weekday_of monday_of iso_start iso_weeks day_of_week valid_iso day_of_iso iso_year iso_of iso_of_day window_year month_first month_days local_date local_weekday local_week from_end
opened = tt
