-- The counts of the months passed, and what the places that are left can still reach.
use mathlib.Core.Path.{◌≡◌}
use Prim.Native.Nat.{◌+◌, ◌-◌, ◌*◌}
use Rattle.frames.specs.Numbers.{rule_of}
use Rattle.frames.specs.Years.{day_count, packed, outer, reach_back}
use Rattle.frames.proofs.years.from_back.Given as goal

abbrev pub invariant-loop-m : goal.invariant-loop-m
invariant-loop-m l = (l.counts ≡ packed (outer (day_count (rule_of l.g)) (12 * l.y) l.fn.front.months (12 - l.m)) 12 (12 * l.y)) × (reach_back (day_count (rule_of l.g)) l.mask 12 (12 * l.y) ≡ 12 - l.m + reach_back (day_count (rule_of l.g)) l.left l.m (12 * l.y))
