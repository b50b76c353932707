-- Opens every definition of the crate and of those below it at once, for the files that compute them.
use Rattle.calendar.specs.Open.{opened as calendar-opened}
use Rattle.lines.specs.Lines.{lines_of, line_end, lines_in}

unfoldable pub opened : Unit {0}
unfolding calendar-opened lines_of line_end lines_in
opened = tt
