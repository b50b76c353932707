-- The weekday of the local day that the month begins with, and the month's days.
use mathlib.Core.Path.{sym, ap, ◌∙◌}
use Prim.Native.Nat.{ℕ, ◌+◌}
use native.Mathlib.Omega.{arith}
use Rattle.calendar.proofs.Weekdays.{local_weekday_lem, weekday_below}
use Rattle.calendar.proofs.Windows.{month_days_range}
use Rattle.calendar.specs.Calendar.{weekday_of}
use Rattle.frames.proofs.MonthDays.{first_at_most}
use Rattle.frames.proofs.shape.Shape.of.Goals as goal

pub overflow_add-month_first : goal.overflow_add-month_first
overflow_add-month_first c = omega (arith, c.month_first.ensures, first_at_most c.args.k)

pub invariant_of-result : goal.invariant_of-result
invariant_of-result c =
    let r = month_days_range c.args.k c.requires in
    let e = c.month_days.ensures in
    record { bounded = (rw c.weekday.ensures (weekday_below _), omega (arith, e, r.0), omega (arith, e, r.1)) }

pub returns : goal.returns
returns c =
    (c.weekday.ensures ∙ ap (λ (d : ℕ). weekday_of (730119 + d)) c.month_first.ensures ∙ sym (local_weekday_lem _), c.month_days.ensures)
