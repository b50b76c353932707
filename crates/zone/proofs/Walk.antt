-- One step of the walk to a minute's stretch: the stretches passed, and those from place k on.
use mathlib.Core.List.{List}
use mathlib.Core.Path.{◌≡◌}
use Prim.Native.Nat.{ℕ, ◌+◌, ◌<◌, ◌≤◌}
use native.Mathlib.Omega.{arith}
use lib.ListN.{length, drop, drop_of_length-le}
use Rattle.zone.specs.Stretches.{boundary, stretch_in, stretch_of}
use Rattle.zone.specs.declared.Transition.{Transition}
use Rattle.zone.proofs.Over.{nth, over, left_from}
use Rattle.zone.proofs.Stretches.{stretch_until, stretch_since, boundary_ahead, boundary_passed}

-- the stretch that is looked up, by the offset so far and the transitions that are left
abbrev pub Walks : ℕ → List Transition → ℕ → ℕ → ℕ → Type 0
Walks first ts m k before = k + stretch_in before (drop k ts) m ≡ stretch_of (over first ts) m

module _ (first : ℕ) (ts : List Transition) (m k before : ℕ) where
  pub at_start : Walks first ts m 0 first
  unfolding stretch_of
  at_start = omega arith

  pub at_stretch : k < length ts → m < boundary before (nth ts k) → Walks first ts m k before → k ≡ stretch_of (over first ts) m
  at_stretch l b e =
      omega (arith, rw (left_from ts k l) at e, stretch_until before (nth ts k) (drop (k + 1) ts) m (boundary_ahead before (nth ts k) m b))

  pub passed : k < length ts → m < 52596000 → boundary before (nth ts k) ≤ m → Walks first ts m k before → Walks first ts m (k + 1) (nth ts k).offset
  passed l w b e =
      omega (arith, rw (left_from ts k l) at e, stretch_since before (nth ts k) (drop (k + 1) ts) m (boundary_passed before (nth ts k) m w b))

  pub at_end : length ts ≤ k → Walks first ts m k before → k ≡ stretch_of (over first ts) m
  unfolding stretch_in
  at_end l e = let h = rw (drop_of_length-le ts {i = k} l) at e in omega (arith, h)
