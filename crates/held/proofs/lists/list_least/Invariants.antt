-- The loop's invariant: nothing below where the search stands is held; an excepted minute is passed.
use mathlib.Core.Bool.{false}
use mathlib.Core.Path.{◌≡◌}
use Prim.Native.Nat.{ℕ, ◌-◌, ◌<◌, ◌≤◌}
use Rattle.held.specs.Lists.{list_held}
use Rattle.held.proofs.lists.list_least.Given as goal

abbrev pub invariant-loop-from : goal.invariant-loop-from
invariant-loop-from l = (l.low ≤ l.from) × (l.from ≤ l.end) × ((j : ℕ) → l.low ≤ j → j < l.from → list_held l.fs j ≡ false)

abbrev pub decreases-loop-from : goal.decreases-loop-from
decreases-loop-from l = l.end - l.from
