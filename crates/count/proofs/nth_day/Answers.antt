-- No occurrence is asked for, no day is left, or the count starts at the low end's place in its month.
use mathlib.Core.Path.{sym, ap, ◌∙◌}
use Prim.Native.Nat.{ℕ}
use native.Mathlib.Omega.{arith}
use Rattle.calendar.specs.declared.year.MonthDay.{MonthDay}
use Rattle.frames.specs.Numbers.{start_month}
use Rattle.days.proofs.Answers.{holds_at}
use Rattle.days.specs.Search.{nth_day}
use Rattle.count.proofs.NthDays.{nth_day_zero, nth_day_past}
use Rattle.count.proofs.nth_day.Goals as goal

pub returns-then-count-eq0 : goal.returns-then-count-eq0
returns-then-count-eq0 c =
    let a = c.args in
    c.max.ensures ∙ nth_day_zero a.f.now a.low ∙ ap (λ (n : ℕ). nth_day a.f.now n a.low) (sym c.if-count-eq0.true)

pub returns-then-low-ge-DAYS : goal.returns-then-low-ge-DAYS
returns-then-low-ge-DAYS c =
    let a = c.args in
    nth_day_past a.f.now a.count a.low c.if-low-ge-DAYS.true

pub nth_from-requires : goal.nth_from-requires
unfolding start_month
nth_from-requires c =
    let a = c.args in
    (ap (λ (q : MonthDay). q.month) c.local_date-start.ensures, rw c.local_date-place.ensures (holds_at a.low (omega arith)).1, omega arith)

pub returns : goal.returns
returns c =
    let a = c.args in
    let h = (holds_at a.low (omega arith)).2 in
    (rw (c.local_date-place.ensures, ← h) at c.nth_from.ensures)
