-- The loop's invariant: what is left of the text makes the answer, and the rows that are left to store the rows.
use Prim.Native.Nat.{◌-◌}
use lib.ListN.{length}
use Rattle.load.specs.Loads.{before_of}
use Rattle.load.proofs.Rounds.{Left}
use Rattle.load.proofs.load.Given as goal

abbrev pub invariant-loop-at : goal.invariant-loop-at
invariant-loop-at l = Left l.plan l.initial.rows l.rows l.n l.at (before_of l.before)

abbrev pub decreases-loop-at : goal.decreases-loop-at
decreases-loop-at l = length l.plan - l.at
