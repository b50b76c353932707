-- The month's set, with the start's month and the year's counts as the frame has them.
use mathlib.Core.Path.{sym, ◌∙◌}
use Prim.Native.Nat.{◌/◌}
use Rattle.frames.proofs.YearSets.{counts_same}
use Rattle.days.specs.Steps.{last_month_in}
use Rattle.days.proofs.Splits.{month_set_of}
use Rattle.days.proofs.parts.month_mask.Goals as goal

pub returns : goal.returns
returns c =
    let l = c.args.f.now in
    let k = c.args.k in
    let counts = c.requires.0.counted ∙ sym (counts_same l (k / 12) (last_month_in l / 12) c.requires.1.same) in
    month_set_of l k _ (c.month_set.ensures ∙ rw (c.requires.0.begun, counts))
