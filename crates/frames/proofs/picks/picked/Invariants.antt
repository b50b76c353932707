-- The loop's invariant: the picked days so far, and how many days of the set were passed.
use mathlib.Core.Bool.{Bool, ◌&&◌}
use mathlib.Core.Path.{◌≡◌}
use Prim.Native.Nat.{ℕ, ◌+◌, ◌-◌}
use Rattle.masks.specs.Masks.{bit, mask_from, bits_below}
use Rattle.frames.proofs.picks.picked.Given as goal

abbrev wants : ℕ → ℕ → ℕ → Bool
wants set wanted j = bit set j && bit wanted (bits_below set (j + 1))

abbrev pub invariant-loop-n : goal.invariant-loop-n
invariant-loop-n l = (l.passed ≡ bits_below l.set l.n) × (l.picked ≡ mask_from (wants l.set l.wanted) (l.n - 1) 1)
