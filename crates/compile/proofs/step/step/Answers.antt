-- The line's frame fits, and its bytes are few.
use mathlib.Core.Path.{sym}
use native.Mathlib.Omega.{arith}
use Rattle.plan.proofs.Placing.{whole_length, line_short}
use Rattle.compile.proofs.Stepping.{frame_fits_lem}
use Rattle.compile.proofs.step.step.Goals as goal

pub context_after-requires : goal.context_after-requires
context_after-requires c = let a = c.args in frame_fits_lem a.s.context a.line.now _ (sym c.in_ok-frame.ensures)

pub overflow_add-result-3 : goal.overflow_add-result-3
overflow_add-result-3 c =
    let f = c.in_ok-frame.frame in omega (arith, c.length_of.ensures, whole_length f, line_short f, c.requires)
