-- Opens every definition of the crate and of those below it at once, for the files that compute them.
use Rattle.sheet.specs.Open.{opened as sheet-opened}
use Rattle.plan.specs.Open.{opened as plan-opened}
use Rattle.masks.specs.Open.{opened as masks-opened}
use Rattle.framed.specs.Framed.{cron_frame, ends_of, ordinals_of, month_mask, weekdays_of, days_of, months_of, last_of, rule_frame, frame_of}

unfoldable pub opened : Unit {0}
unfolding sheet-opened plan-opened masks-opened cron_frame ends_of ordinals_of month_mask weekdays_of days_of months_of last_of rule_frame frame_of
opened = tt
