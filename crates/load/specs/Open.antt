-- Opens every definition of the crate and of those below it at once, for the files that compute them.
use Rattle.plan.specs.Open.{opened as plan-opened}
use Rattle.load.specs.Loads.{read_from, read_frames}
use Rattle.load.specs.Zones.{changes_in, zone_of}

unfoldable pub opened : Unit {0}
unfolding plan-opened read_from read_frames changes_in zone_of
opened = tt
