-- Of a daily frame without positions a month's set is its day set, and its bits are the days of it.
use mathlib.Core.Path.{◌∙◌}
use Rattle.frames.proofs.YearSets.{bare_set, count_of_set}
use Rattle.frames.proofs.years.day_count.Goals as goal

pub returns : goal.returns
returns c =
    c.count_from.ensures ∙ rw (c.month_set.ensures, bare_set c.args.g.now c.requires.1 c.args.k) (count_of_set _ _ c.requires.0)
