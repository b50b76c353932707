-- The loop's invariant: the days of the ordinals so far.
use mathlib.Core.Path.{◌≡◌}
use Prim.Native.Nat.{ℕ, ◌≤◌}
use Rattle.masks.specs.Masks.{bit}
use Rattle.frames.proofs.Ordinals.{below}
use Rattle.frames.proofs.limits.ordinals_allowed.Given as goal

abbrev pub invariant-loop-n : goal.invariant-loop-n
invariant-loop-n l = (d : ℕ) → 1 ≤ d → d ≤ l.month.len → bit l.set d ≡ below l.ordinals l.month.first l.month.len d l.n
