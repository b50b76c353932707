-- The counts of the months passed, and what the places that are left can still reach.
use mathlib.Core.Path.{◌≡◌}
use Prim.Native.Nat.{◌+◌, ◌-◌, ◌*◌}
use Rattle.frames.specs.Numbers.{rule_of}
use Rattle.frames.specs.Years.{day_count, packed, outer, reach}
use Rattle.frames.proofs.years.from_front.Given as goal

abbrev pub invariant-loop-m : goal.invariant-loop-m
invariant-loop-m l = (l.counts ≡ packed (outer (day_count (rule_of l.g)) (12 * l.y) l.m 0) 12 (12 * l.y)) × (reach (day_count (rule_of l.g)) l.mask 12 (12 * l.y) ≡ l.m + reach (day_count (rule_of l.g)) l.left (12 - l.m) (12 * l.y + l.m))
