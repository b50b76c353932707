-- The zone so far with the transitions left is the zone.
use Rattle.load.proofs.ZoneRows.{Rest}
use Rattle.load.proofs.offsets.zone_of.Given as goal

abbrev pub invariant-loop-k : goal.invariant-loop-k
invariant-loop-k l = Rest l.rows l.count l.changes l.zone l.k
