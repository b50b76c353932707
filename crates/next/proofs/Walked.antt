-- The stretches as they are read off a zone's transitions.
use mathlib.Core.Path.{◌≡◌, sym, ap, ◌∙◌}
use Prim.Native.Nat.{ℕ, ◌+◌, ◌<◌, ◌≤◌}
use native.Mathlib.Omega.{arith}
use lib.ListN.{length}
use Rattle.zone.proofs.Held.{held_at, first_offset, held_end}
use Rattle.zone.proofs.Stretches.{stretch_past_last, stretch_ends}
use Rattle.zone.specs.Held.{offsets_of}
use Rattle.zone.specs.Stretches.{boundary, stretch_from, stretch_offset}
use Rattle.zone.specs.Zone.{Offsets}
use Rattle.zone.specs.declared.Zone.{Zone}

-- the first stretch has the zone's first offset
pub first_held : (w : Zone) → w.first ≡ stretch_offset (offsets_of w) 0
unfolding offsets_of
first_held w = sym (first_offset (offsets_of w))

module _ (z : Offsets) where
  -- transition k starts stretch k + 1
  pub from_there : (k offset : ℕ) → k < length z.changes → offset ≡ stretch_offset z k → boundary offset (held_at z k) ≡ stretch_from z (k + 1)
  from_there k offset l o = ap (λ (x : ℕ). boundary x (held_at z k)) o ∙ sym (held_end z k l) ∙ sym (stretch_ends z k)

  -- the last ends with the window
  pub last_end : (k : ℕ) → length z.changes ≤ k → 52596000 ≡ stretch_from z (k + 1)
  last_end k l = sym (stretch_past_last z (k + 1) (omega arith))
