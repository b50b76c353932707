-- Opens every definition of the crate and of those below it at once, for the files that compute them.
use Rattle.calendar.specs.Open.{opened as calendar-opened}
use Rattle.lines.specs.Open.{opened as lines-opened}
use Rattle.hex_lines.specs.Open.{opened as hex-opened}
use Rattle.zone.specs.Open.{opened as zone-opened}
use Rattle.days.specs.Open.{opened as days-opened}
use Rattle.plan.specs.Allowed.{allowed_from, frames_allowed}
use Rattle.plan.specs.Fits.{frame_fields, frame_fits, frame_widths, pairs_from, pairs_at}
use Rattle.plan.specs.Plan.{frame_holds, frame_excepts, plan_held, changes_of, offset_of, plan_zone}
use Rattle.plan.specs.Read.{line_read}
use Rattle.plan.specs.Rows.{row_of, frame_in}
use Rattle.plan.specs.Taken.{cron_good, places_good, frequency_good, rule_good, frame_good, place, number_good, allowed, load_from, load}
use Rattle.plan.specs.Text.{moved, moved_frame, frame_line, plan_text, cron_from, rule_from, frame_from, bytes_frame, line_frame}

unfoldable pub opened : Unit {0}
unfolding calendar-opened lines-opened hex-opened zone-opened days-opened allowed_from frames_allowed frame_fields frame_fits frame_widths pairs_from pairs_at frame_holds frame_excepts plan_held changes_of offset_of plan_zone line_read row_of frame_in cron_good places_good frequency_good rule_good frame_good place number_good allowed load_from load moved moved_frame frame_line plan_text cron_from rule_from frame_from bytes_frame line_frame
opened = tt
