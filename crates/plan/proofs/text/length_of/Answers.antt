-- No line is too long for its LF.
use native.Mathlib.Omega.{arith}
use Rattle.plan.proofs.Placing.{line_short}
use Rattle.plan.proofs.text.length_of.Goals as goal

pub overflow_add-result : goal.overflow_add-result
overflow_add-result c = omega (arith, line_short c.args.frame, c.size_of.ensures)
