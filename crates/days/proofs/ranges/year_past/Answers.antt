-- A month of the window.
use native.Mathlib.Omega.{arith}
use Rattle.days.proofs.Answers.{holds_at}
use Rattle.days.proofs.ranges.year_past.Goals as goal

pub overflow_add-local_date : goal.overflow_add-local_date
overflow_add-local_date c = rw c.local_date.ensures (omega (arith, (holds_at c.args.d c.requires).0.month))
