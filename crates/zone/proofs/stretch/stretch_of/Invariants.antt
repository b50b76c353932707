-- The walk takes the transitions one after the other: those passed, and the stretch among those that are left, give the minute's stretch.
use Rattle.zone.proofs.Walk.{Walks}
use Rattle.zone.proofs.stretch.stretch_of.Given as goal

abbrev pub invariant-loop-k : goal.invariant-loop-k
invariant-loop-k l = Walks l.zone.first l.held l.m l.k l.before
