-- The loop's invariant: the bits kept below `at`, where a run begins.
use Prim.Native.Nat.{◌+◌, ◌-◌}
use Rattle.count.proofs.RunBits.{Kept}
use Rattle.count.proofs.runs.runs.Given as goal

abbrev pub invariant-loop-at : goal.invariant-loop-at
invariant-loop-at l = Kept l.mask l.n l.x l.width l.turn l.at l.kept

abbrev pub decreases-loop-at : goal.decreases-loop-at
decreases-loop-at l = l.len + 1 - l.at
