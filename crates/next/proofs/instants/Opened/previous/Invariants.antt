-- The best so far is the latest instant of the stretches from k on; the stretch before them is searched above it.
use mathlib.Core.Path.{◌≡◌}
use Prim.Native.Nat.{◌+◌}
use Rattle.held.specs.Lists.{list_held}
use Rattle.zone.specs.Held.{offsets_of}
use Rattle.zone.specs.Stretches.{stretch_from}
use Rattle.next.specs.Nearest.{Earlier, Latest}
use Rattle.next.proofs.Parts.{InstantIn}
use Rattle.next.proofs.instants.Opened.previous.Given as goal

abbrev pub invariant-loop-k : goal.invariant-loop-k
invariant-loop-k l =
    (l.end ≡ stretch_from (offsets_of l.self.zone.now) (l.k + 1))
    × Latest (Earlier l.before (InstantIn (list_held l.self.frames.now) (offsets_of l.self.zone.now) l.end 52596000)) 0 l.best
