-- Opens every definition of the crate and of those below it at once, for the files that compute them.
use Rattle.calendar.specs.Open.{opened as calendar-opened}
use Rattle.masks.specs.Masks.{mask_from, with_bit, next_bit, previous_bit, bits_from, bits_below}
use Rattle.masks.specs.Times.{time_held, next_time, last_time}

unfoldable pub opened : Unit {0}
unfolding calendar-opened mask_from with_bit next_bit previous_bit bits_from bits_below time_held next_time last_time
opened = tt
