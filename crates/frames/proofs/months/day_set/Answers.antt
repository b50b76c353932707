-- The limits of month days and weekdays, day by day; the month is one of the rule's.
use mathlib.Core.Bool.{◌&&◌}
use mathlib.Core.Path.{sym, ap₂, ◌∙◌}
use Prim.Native.Nat.{◌≤◌}
use native.Mathlib.Omega.{arith}
use Rattle.masks.proofs.WithBits.{bit_of_shared}
use Rattle.frames.specs.Rule.{in_set}
use Rattle.frames.specs.Months.{day_of}
use Rattle.frames.proofs.MonthSets.{month_same, in_set_at}
use Rattle.frames.specs.Numbers.{rule_of}
use Rattle.frames.proofs.months.day_set.Goals as goal

pub returns : goal.returns
returns c =
    let a = c.args in
    let f = rule_of a.f.now in
    let rule = c.rule_of-rule.ensures in
    let month = c.of-month in
    let days = rw rule at c.days_allowed-days.ensures in
    let weekdays = rw rule at c.weekdays_allowed-weekdays.ensures in
    c.days_up_to.ensures
    ∙ month_same _ (λ n. in_set f (day_of a.k n)) a.k month.result.len month.ensures.1
    (λ n i.
    let h : n ≤ month.result.len = omega (arith, i.high, month.ensures.1) in
    bit_of_shared _ _ n
    ∙ ap₂ ◌&&◌ (days n i.low h) (weekdays n i.low h)
    ∙ (rw (month.ensures.1, month.ensures.0) (sym (in_set_at f a.k n i ∙ simp c.requires.1))))
