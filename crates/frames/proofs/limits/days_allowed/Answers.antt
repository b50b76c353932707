-- No limit, or days counted from both ends.
use mathlib.Core.Path.{sym, ◌∙◌}
use native.Mathlib.Omega.{arith}
use Rattle.frames.proofs.Allowed.{any_day_lem, given_day}
use Rattle.frames.proofs.MonthSets.{whole_bit}
use Rattle.frames.proofs.limits.days_allowed.Goals as goal

pub returns-then-no_limit : goal.returns-then-no_limit
returns-then-no_limit c = λ n l h. whole_bit n l (omega arith) ∙ sym (any_day_lem _ n _ (sym c.no_limit.ensures ∙ c.if-no_limit.true))

pub returns : goal.returns
returns c =
    λ n l h. c.both_ends.ensures n l h ∙ sym (given_day _ n _ (sym c.no_limit.ensures ∙ c.if-no_limit.false))
