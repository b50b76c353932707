-- No month past the window has a day, nor one that is out; the two kinds of frame; no other kind holds a day.
use mathlib.Core.Path.{refl, sym, ◌∙◌}
use native.Mathlib.Omega.{arith}
use borrow.Author.Tests.{eq-eqb, ne_eqb}
use Rattle.frames.specs.Months.{month_part, month_set}
use Rattle.frames.proofs.MonthSets.{month_none, month_same, out_part, rule_month_in}
use Rattle.frames.proofs.months.month_set.Goals as goal
use Rattle.frames.proofs.months.month_set.Goals.{then-k-gt-LAST_MONTH-via-then-k-gt-LAST_MONTH, then-k-gt-LAST_MONTH-via-else-k-gt-LAST_MONTH+then-month_out}

pub returns-then-k-gt-LAST_MONTH : goal.returns-then-k-gt-LAST_MONTH
unfolding month_set
returns-then-k-gt-LAST_MONTH c =
    let a = c.args in
    elim c.then-k-gt-LAST_MONTH.branch [
      | then-k-gt-LAST_MONTH-via-then-k-gt-LAST_MONTH w ↦ month_none _ a.k (λ n i. absurd (omega (arith, i.month)))
      | then-k-gt-LAST_MONTH-via-else-k-gt-LAST_MONTH+then-month_out w ↦
          month_none _ a.k (λ n i. out_part a.f.now a.start a.counts a.k n i (sym w.month_out.ensures ∙ w.if-month_out.true))
    ]

pub returns-then-f-eq-CRON : goal.returns-then-f-eq-CRON
unfolding month_part month_set
returns-then-f-eq-CRON c =
    let p = eq-eqb _ _ c.if-f-eq-CRON.true in
    (rw c.cron_of.ensures at c.cron_set.ensures) ∙ month_same _ _ _ _ refl (λ n i. rw p refl)

pub rule_set-requires : goal.rule_set-requires
rule_set-requires c =
    let a = c.args in
    let here = sym c.month_out.ensures ∙ c.if-month_out.false in
    (omega arith, rule_month_in a.f.now a.k here c.if-f-eq-RULE.true)

pub returns-then-f-eq-RULE : goal.returns-then-f-eq-RULE
unfolding month_part month_set
returns-then-f-eq-RULE c =
    let p = ne_eqb _ _ c.if-f-eq-CRON.false in
    let q = eq-eqb _ _ c.if-f-eq-RULE.true in
    c.rule_set.ensures ∙ month_same _ _ _ _ refl (λ n i. rw (p, q) refl)

pub returns : goal.returns
unfolding month_part month_set
returns c =
    let p = ne_eqb _ _ c.if-f-eq-CRON.false in
    let q = ne_eqb _ _ c.if-f-eq-RULE.false in
    month_none _ _ (λ n i. rw (p, q) refl)
