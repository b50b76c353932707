-- Opens every definition of the crate and of those below it at once, for the files that compute them.
use Rattle.frames.specs.Open.{opened as frames-opened}
use Rattle.days.specs.Search.{least_day, last_day, nth_from, nth_day}
use Rattle.days.specs.Steps.{day_counts, day_part, readied}

unfoldable pub opened : Unit {0}
unfolding frames-opened least_day last_day nth_from nth_day day_counts day_part readied
opened = tt
