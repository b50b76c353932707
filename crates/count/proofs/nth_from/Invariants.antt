-- Each turn passes a month that holds fewer days than are left to count: what is left starts with the next month.
use mathlib.Core.Path.{◌≡◌}
use Prim.Native.Nat.{◌/◌, ◌<◌, ◌≤◌}
use Rattle.frames.specs.Months.{day_of, InMonth}
use Rattle.days.specs.Search.{nth_day}
use Rattle.frames.specs.Years.{year_counts}
use Rattle.count.proofs.nth_from.Given as goal

abbrev pub invariant-loop-k : goal.invariant-loop-k
invariant-loop-k l = (l.k < 1200 → InMonth l.k l.n) × (day_of l.k l.n ≤ 36525) × (1 ≤ l.left) × (nth_day l.f l.count (day_of l.month l.day) ≡ nth_day l.f l.left (day_of l.k l.n)) × (l.counts ≡ year_counts l.f (l.k / 12))
