-- Where every day passes by itself, the month's set is the held days; else the interval decides too.
use mathlib.Core.Path.{◌∙◌}
use Rattle.count.proofs.HeldSets.{by_month_set}
use Rattle.count.proofs.sets.held_set.Goals as goal

pub returns-then-by_month : goal.returns-then-by_month
returns-then-by_month c =
    let l = c.args.f.now in
    let k = c.args.k in
    by_month_set l k _ (c.month_set-set.ensures ∙ rw (c.requires.0, c.requires.2))
    (rw c.month_first.ensures at (c.by_month.ensures.0 c.if-by_month.true))
