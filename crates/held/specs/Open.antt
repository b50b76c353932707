-- Opens every definition of the crate and of those below it at once, for the files that compute them.
use Rattle.days.specs.Open.{opened as days-opened}
use Rattle.held.specs.Lists.{frame_excepts, list_held, list_least, list_last}
use Rattle.held.specs.Minutes.{frame_held, least_minute, last_minute, time_part}

unfoldable pub opened : Unit {0}
unfolding days-opened frame_excepts list_held list_least list_last frame_held least_minute last_minute time_part
opened = tt
