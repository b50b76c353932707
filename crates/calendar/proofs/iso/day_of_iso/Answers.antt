-- A year's weeks end within the range, or a week past it.
use native.Mathlib.Omega.{arith}
use Rattle.std.proofs.lemmas.Grind.{common_steps}
use Rattle.calendar.proofs.Isos.{iso_start_top, iso_weeks_most}
use Rattle.calendar.proofs.iso.day_of_iso.Goals as goal

pub overflow_mul-n : goal.overflow_mul-n
overflow_mul-n c = grind (arith, common_steps, iso_weeks_most c.args.year, c.weeks.ensures)

pub overflow_add-n : goal.overflow_add-n
overflow_add-n c = grind (arith, common_steps, iso_weeks_most c.args.year, iso_start_top c.args.year, c.weeks.ensures, c.week_one.ensures)

pub overflow_add-n-2 : goal.overflow_add-n-2
overflow_add-n-2 c = grind (arith, common_steps, iso_weeks_most c.args.year, iso_start_top c.args.year, c.weeks.ensures, c.week_one.ensures)
