-- The days left to the walk's last day fall.
use Prim.Native.Nat.{◌+◌, ◌-◌, ◌*◌}
use Rattle.calendar.specs.Window.{month_first}
use Rattle.days.specs.Steps.{last_day_in}
use Rattle.days.proofs.steps.+day_step_from_day_month_step.Given as goal

abbrev pub decreases-day_step : goal.decreases-day_step
decreases-day_step l = 2 * (last_day_in l.f.now + 1 - l.d)

abbrev pub decreases-from_day : goal.decreases-from_day
decreases-from_day l = 2 * (last_day_in l.f.now + 1 - l.d) + 1

abbrev pub decreases-month_step : goal.decreases-month_step
decreases-month_step l = 2 * (last_day_in l.f.now + 1 - month_first l.k) + 1
