-- The best so far is the earliest instant of the stretches passed; the next stretch is searched below it.
use mathlib.Core.Path.{◌≡◌}
use Rattle.held.specs.Lists.{list_held}
use Rattle.zone.specs.Held.{offsets_of}
use Rattle.zone.specs.Stretches.{stretch_from, stretch_offset}
use Rattle.next.specs.Nearest.{Later, Earliest}
use Rattle.next.proofs.Parts.{InstantIn}
use Rattle.next.proofs.instants.Opened.next.Given as goal

abbrev pub invariant-loop-change : goal.invariant-loop-change
invariant-loop-change l =
    (l.from ≡ stretch_from (offsets_of l.self.zone.now) l.change-index)
    × (l.offset ≡ stretch_offset (offsets_of l.self.zone.now) l.change-index)
    × Earliest (Later l.after (InstantIn (list_held l.self.frames.now) (offsets_of l.self.zone.now) 0 l.from)) 52598881 l.best
