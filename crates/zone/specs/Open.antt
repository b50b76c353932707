-- Opens every definition of the crate and of those below it at once, for the files that compute them.
use Rattle.calendar.specs.Open.{opened as calendar-opened}
use Rattle.zone.specs.Held.{offsets_of}
use Rattle.zone.specs.Stretches.{offset_after, boundary, stretch_offset, end_in, stretch_from, stretch_in, stretch_of, stretch_instant, stretch_local, instant_of_local, second_pass_in, second_pass}
use Rattle.zone.specs.Zone.{offset_from, offset_at, shows, gap_instant, instant_of, under_limits, transitions_good, zone_good}

unfoldable pub opened : Unit {0}
unfolding calendar-opened offsets_of offset_after boundary stretch_offset end_in stretch_from stretch_in stretch_of stretch_instant stretch_local instant_of_local second_pass_in second_pass offset_from offset_at shows gap_instant instant_of under_limits transitions_good zone_good
opened = tt
