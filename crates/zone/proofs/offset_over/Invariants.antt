-- The offset so far, and the transitions that are left, give what the list gives.
use Rattle.zone.proofs.Over.{Agrees}
use Rattle.zone.proofs.offset_over.Given as goal

abbrev pub invariant-loop-change : goal.invariant-loop-change
invariant-loop-change l = Agrees l.first l.changes l.instant l.change-index l.offset
