-- Weekdays and ordinals together, weekdays alone, or no limit.
use mathlib.Core.Bool.{◌||◌}
use mathlib.Core.Path.{sym, ap₂, ◌∙◌}
use Prim.Native.Nat.{◌+◌, ◌-◌, ◌%◌}
use native.Mathlib.Omega.{arith}
use borrow.Author.Tests.{ne_eqb}
use Rattle.masks.proofs.WithBits.{bit_of_both}
use Rattle.frames.proofs.Allowed.{any_weekday, plain_weekday, ordinal_weekday}
use Rattle.frames.proofs.MonthSets.{whole_bit}
use Rattle.frames.proofs.limits.weekdays_allowed.Goals as goal

pub returns-then-not-no_limit : goal.returns-then-not-no_limit
returns-then-not-no_limit c =
    let a = c.args in
    let o = c.no_limit in
    λ n l h.
    bit_of_both _ _ n
    ∙ ap₂ ◌||◌ (c.week_days-plain.ensures n l (omega arith)) (c.ordinals_allowed.ensures n l h)
    ∙ sym
    (ordinal_weekday a.f n (a.month.len + 1 - n) ((a.month.first + (n - 1)) % 7) (sym o.ensures ∙ c.if-not-no_limit.true))

pub returns-then-f-eq0 : goal.returns-then-f-eq0
returns-then-f-eq0 c =
    let o = c.no_limit in
    λ n l h. whole_bit n l (omega arith)
    ∙ sym (any_weekday _ n _ _ (sym o.ensures ∙ c.if-not-no_limit.false) c.if-f-eq0.true)

pub returns : goal.returns
returns c =
    let o = c.no_limit in
    λ n l h.
    c.week_days-plain.ensures n l (omega arith)
    ∙ sym (plain_weekday _ n _ _ (sym o.ensures ∙ c.if-not-no_limit.false) (ne_eqb _ _ c.if-f-eq0.false))
