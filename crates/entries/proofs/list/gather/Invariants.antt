-- What is left, taken up in what was read, comes to the whole list.
use Rattle.std.proofs.Common.{◌+◌, ◌-◌, length}
use Rattle.entries.specs.Gathered.{gathered, ended}
use Rattle.entries.proofs.Gathering.{Rest}
use Rattle.entries.proofs.list.gather.Given as goal

abbrev pub invariant-loop-more : goal.invariant-loop-more
invariant-loop-more g l =
    Rest (g.L.Listed.step l.s) g.L.Listed.SEPARATOR l.s
    (ended (gathered (g.L.Listed.step l.s) g.L.Listed.SEPARATOR l.s (length l.s + 1) l.fn.start l.fn.c.at)) l.m l.at

abbrev pub decreases-loop-more : goal.decreases-loop-more
decreases-loop-more g l = length l.s - l.at
