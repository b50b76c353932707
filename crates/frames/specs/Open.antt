-- Opens every definition of the crate and of those below it at once, for the files that compute them.
use Rattle.calendar.specs.Open.{opened as calendar-opened}
use Rattle.masks.specs.Open.{opened as masks-opened}
use Rattle.frames.specs.Cron.{joined, cron_day_at, cron_day, cron_time, cron_held}
use Rattle.frames.specs.Months.{month_counts, none_placed, rule_part, month_part, month_set, month_out}
use Rattle.frames.specs.Numbers.{day_held, start_month}
use Rattle.frames.specs.Rule.{month_day_allowed, weekday_allowed, in_set, placed, period, counts, rule_day, rule_occurs, rule_held}
use Rattle.frames.specs.Years.{day_count, packed, packed_sum, reach, reach_back, reached, year_placed, year_counts, none_counted, positions_in, bared}

unfoldable pub opened : Unit {0}
unfolding calendar-opened masks-opened joined cron_day_at cron_day cron_time cron_held month_counts none_placed rule_part month_part month_set month_out day_held start_month month_day_allowed weekday_allowed in_set placed period counts rule_day rule_occurs rule_held day_count packed packed_sum reach reach_back reached year_placed year_counts none_counted positions_in bared
opened = tt
