-- A date that was found is a day of the window.
use Rattle.std.proofs.Common.{◌≤◌, ◌<◌, ◌+◌, arith, rules}
use Rattle.calendar.specs.Window.{window_first, window_days}
use Rattle.words.specs.Answers.{time_as}
use Rattle.words.proofs.Values.{day_held}
use Rattle.words.proofs.times.local_minute.Goals as goal
use Rattle.words.proofs.times.local_minute.Goals.{In_ok-day}

held : (c : In_ok-day) → (window_first ≤ c.in_ok-day.day) × (c.in_ok-day.day < window_first + window_days)
held c =
    day_held (time_as c.args.t) (search rules) (search rules) c.if-t-gt-LAST_HOUR.false c.if-t-gt-LAST_MINUTE.false (omega arith) _ c.in_ok-day.ensures

pub overflow_sub-result : goal.overflow_sub-result
overflow_sub-result c = (held c).0

pub overflow_mul-result : goal.overflow_mul-result
overflow_mul-result c = omega (arith, held c)

pub overflow_add-result-2 : goal.overflow_add-result-2
overflow_add-result-2 c = omega (arith, held c)
