-- The loop's invariant: the best so far is the last of the frames passed; the next frame is searched above it.
use lib.ListN.{take}
use Rattle.calendar.proofs.Leasts.{Last}
use Rattle.held.specs.Lists.{any_held}
use Rattle.held.proofs.lists.any_last.Given as goal

abbrev pub invariant-loop-f : goal.invariant-loop-f
invariant-loop-f l = Last (any_held (take l.f-index l.fs)) l.low l.high l.best
