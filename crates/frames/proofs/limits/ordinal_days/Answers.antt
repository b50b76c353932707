-- The weekdays of the ordinal, cut with the seven days that it is counted in.
use mathlib.Core.Bool.{◌&&◌, ◌||◌, and_comm}
use mathlib.Core.Path.{ap₂, ◌∙◌}
use Prim.Native.Nat.{◌+◌, ◌-◌, ◌/◌, ◌%◌}
use native.Mathlib.Omega.{arith}
use lib.Dec.{eqb}
use Rattle.masks.proofs.WithBits.{bit_of_both, bit_of_shared}
use Rattle.masks.specs.Masks.{bit}
use Rattle.frames.specs.Rule.{ordinal_mask}
use Rattle.frames.proofs.Ordinals.{front_week, back_week}
use Rattle.frames.proofs.limits.ordinal_days.Goals as goal

pub returns : goal.returns
returns c =
    let a = c.args in
    λ d l h.
    let w = (a.month.first + (d - 1)) % 7 in
    bit_of_both _ _ d
    ∙ ap₂ ◌||◌
    (bit_of_shared _ _ d ∙ ap₂ ◌&&◌ (c.ordinal_week.ensures d l (omega arith)) (front_week a.n d (omega arith) l)
    ∙ and_comm (bit (ordinal_mask a.ordinals.front (a.n + 1)) w) (eqb ((d - 1) / 7) a.n))
    (bit_of_shared _ _ d ∙ ap₂ ◌&&◌ (c.ordinal_week-2.ensures d l (omega arith)) (back_week a.n d a.month.len (omega arith) (omega arith) (omega arith) l h)
    ∙ and_comm (bit (ordinal_mask a.ordinals.back (a.n + 1)) w) (eqb ((a.month.len - d) / 7) a.n))
