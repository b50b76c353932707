-- The loop's invariant: what is left of the sheet makes the answer, and the rows that are left to store the rows.
use Prim.Native.Nat.{◌-◌}
use lib.ListN.{length}
use Rattle.compile.proofs.Rounds.{Left}
use Rattle.compile.proofs.reading.read.Given as goal

abbrev pub invariant-loop-at : goal.invariant-loop-at
invariant-loop-at l = Left l.sheet l.initial.rows l.rows l.at l.state

abbrev pub decreases-loop-at : goal.decreases-loop-at
decreases-loop-at l = length l.sheet - l.at
