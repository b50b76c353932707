-- What is left leads to what the whole list may come to.
use Rattle.std.proofs.Common.{◌+◌, ◌-◌, length}
use Rattle.entries.specs.Gathered.{Leads}
use Rattle.entries.proofs.Leading.{Rest}
use Rattle.entries.proofs.list.gather_by.Given as goal

abbrev pub invariant-loop-made : goal.invariant-loop-made
invariant-loop-made g l =
    Rest (g.L.Steps.step l.list) (g.L.Steps.separator l.list) l.s
    (Leads (g.L.Steps.step l.list) (g.L.Steps.separator l.list) l.s (length l.s + 1) l.fn.start l.fn.c.at) l.m l.at

abbrev pub decreases-loop-made : goal.decreases-loop-made
decreases-loop-made g l = length l.s - l.at
