-- The steps of `steps` the other way round: the days left down to the walk's last day fall.
use Prim.Native.Nat.{◌+◌, ◌-◌, ◌*◌}
use Rattle.calendar.specs.Window.{month_days, month_first}
use Rattle.days.specs.Steps.{last_day_in}
use Rattle.days.proofs.back.+back_from_day_day_back_month_back.Given as goal

abbrev pub decreases-back_from_day : goal.decreases-back_from_day
decreases-back_from_day l = 2 * (l.d + 1 - last_day_in l.f.now) + 1

abbrev pub decreases-day_back : goal.decreases-day_back
decreases-day_back l = 2 * (l.d + 1 - last_day_in l.f.now)

abbrev pub decreases-month_back : goal.decreases-month_back
decreases-month_back l = 2 * (month_first l.k + month_days l.k - last_day_in l.f.now) + 1
