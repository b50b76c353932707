-- The frames so far are put, and the place is after them.
use mathlib.Core.Path.{◌≡◌}
use lib.ListN.{length}
use Rattle.compile.proofs.Written.{Written}
use Rattle.compile.proofs.writing.write.Given as goal

abbrev pub invariant-loop-row : goal.invariant-loop-row
invariant-loop-row l = Written l.initial.plan l.rows (length l.rows) l.plan l.at l.row-index × (length l.plan ≡ length l.initial.plan)
