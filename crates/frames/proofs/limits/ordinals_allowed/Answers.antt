-- The loop's invariant: the days of the ordinals so far.
use mathlib.Core.Bool.{◌||◌}
use mathlib.Core.Path.{ap₂, ◌∙◌}
use Rattle.masks.proofs.WithBits.{bit_of_both}
use Rattle.frames.proofs.Ordinals.{below_grown}
use Rattle.frames.proofs.limits.ordinals_allowed.Goals as goal

pub loop-n-preserved : goal.loop-n-preserved
loop-n-preserved c =
    let a = c.args in
    let v = c.loop-n in
    λ d l h.
    bit_of_both v.set _ d ∙ ap₂ ◌||◌ (v.invariant d l h) (c.ordinal_days-set.ensures d l h) ∙ below_grown a.ordinals a.month.first a.month.len d v.n
