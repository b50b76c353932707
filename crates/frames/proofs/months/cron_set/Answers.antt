-- The days of month and day of month together, and those of day of week, day by day.
use mathlib.Core.Bool.{Bool, true, false, cond, ◌&&◌, ◌||◌}
use mathlib.Core.Path.{◌≡◌, refl, sym, ap, ap₂, ◌∙◌}
use Prim.Native.Nat.{ℕ, ◌+◌, ◌-◌, ◌%◌}
use native.Mathlib.Omega.{arith}
use Rattle.masks.proofs.Bits.{bit_of_zero}
use Rattle.masks.proofs.WithBits.{bit_of_both, bit_of_shared}
use Rattle.masks.specs.Masks.{bit}
use Rattle.frames.specs.Cron.{cron_day_at, cron_day}
use Rattle.frames.specs.Months.{day_of}
use Rattle.frames.proofs.MonthDays.{days_at_most}
use Rattle.frames.proofs.MonthSets.{month_same, cron_day_at_lem}
use Rattle.frames.proofs.months.cron_set.Goals as goal

kept : (b : Bool) (days n : ℕ) → bit (cond b days 0) n ≡ (b && bit days n)
kept true days n = refl
kept false days n = bit_of_zero n

pub returns-then-is_joined : goal.returns-then-is_joined
unfolding cron_day_at
returns-then-is_joined c =
    let a = c.args in
    let month = c.of-month in
    let j = sym c.is_joined.ensures ∙ c.if-is_joined.true in
    c.days_up_to.ensures
    ∙ month_same _ (λ n. cron_day a.f (day_of a.k n)) a.k month.result.len month.ensures.1
    (λ n i.
    let d = ap (λ (x : ℕ). bit x n) c.month_and_days-days.ensures ∙ kept (bit a.f.months (a.k % 12 + 1)) a.f.days n in
    let w =
    c.week_days-week.ensures n i.low (omega (arith, i.high, days_at_most a.k)) ∙ ap (λ (x : ℕ). bit a.f.weekdays ((x + (n - 1)) % 7)) month.ensures.0 in
    bit_of_both _ _ n ∙ ap₂ ◌||◌ d w ∙ sym (cron_day_at_lem a.f a.k n i ∙ simp j))

pub returns : goal.returns
unfolding cron_day_at
returns c =
    let a = c.args in
    let month = c.of-month in
    let j = sym c.is_joined.ensures ∙ c.if-is_joined.false in
    c.days_up_to-2.ensures
    ∙ month_same _ (λ n. cron_day a.f (day_of a.k n)) a.k month.result.len month.ensures.1
    (λ n i.
    let d = ap (λ (x : ℕ). bit x n) c.month_and_days-days.ensures ∙ kept (bit a.f.months (a.k % 12 + 1)) a.f.days n in
    let w =
    c.week_days-week.ensures n i.low (omega (arith, i.high, days_at_most a.k)) ∙ ap (λ (x : ℕ). bit a.f.weekdays ((x + (n - 1)) % 7)) month.ensures.0 in
    bit_of_shared _ _ n ∙ ap₂ ◌&&◌ d w ∙ sym (cron_day_at_lem a.f a.k n i ∙ simp j))
