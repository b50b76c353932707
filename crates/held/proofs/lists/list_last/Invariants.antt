-- The loop's invariant: nothing from where the search stands on is held; an excepted minute is passed.
use mathlib.Core.Bool.{false}
use mathlib.Core.Path.{◌≡◌}
use Prim.Native.Nat.{ℕ, ◌-◌, ◌<◌, ◌≤◌}
use Rattle.held.specs.Lists.{list_held}
use Rattle.held.proofs.lists.list_last.Given as goal

abbrev pub invariant-loop-to : goal.invariant-loop-to
invariant-loop-to l = (l.to ≤ l.end) × ((j : ℕ) → l.to ≤ j → j < l.end → list_held l.fs j ≡ false)

abbrev pub decreases-loop-to : goal.decreases-loop-to
decreases-loop-to l = l.to - l.low
