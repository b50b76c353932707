-- A month that does not count has no day, nor one with none of the positions; any other its day set, or the days that the positions pick from it.
use mathlib.Core.Path.{refl, sym, ap, ◌∙◌}
use Prim.Native.Nat.{ℕ}
use native.Mathlib.Omega.{arith}
use Rattle.calendar.specs.Window.{month_days}
use Rattle.masks.proofs.MaskFroms.{bit_below_mask, mask_from_below}
use Rattle.masks.specs.Masks.{bit}
use Rattle.frames.specs.Rule.{in_set}
use Rattle.frames.specs.Months.{rule_part, day_of}
use Rattle.frames.proofs.MonthDays.{days_at_most}
use Rattle.frames.proofs.MonthSets.{month_none, month_same, free_part, picked_part}
use Rattle.frames.specs.Numbers.{rule_of}
use Rattle.frames.proofs.YearSets.{none_placed_lem}
use Rattle.frames.proofs.months.rule_set.Goals as goal
use Rattle.frames.proofs.months.rule_set.Goals.{then-not-month_counts-via-then-not-month_counts, then-not-month_counts-via-else-not-month_counts+then-none_placed}

pub returns-then-not-month_counts : goal.returns-then-not-month_counts
unfolding rule_part
returns-then-not-month_counts c =
    let a = c.args in
    elim c.then-not-month_counts.branch [
      | then-not-month_counts-via-then-not-month_counts w ↦
          let m = sym c.month_counts.ensures ∙ w.if-not-month_counts.true in
          month_none (rule_part (rule_of a.f.now) a.start a.counts a.k) a.k (λ n i. simp m)
      | then-not-month_counts-via-else-not-month_counts+then-none_placed w ↦
          let e = sym w.none_placed.ensures ∙ w.if-none_placed.true in
          month_none _ a.k (λ n i. none_placed_lem (rule_of a.f.now) a.start a.counts a.k n e (omega (arith, i.high, days_at_most a.k)))
    ]

pub returns-then-no_limit : goal.returns-then-no_limit
returns-then-no_limit c =
    let a = c.args in
    let m = c.month_counts in
    let counted = sym m.ensures ∙ c.if-not-month_counts.false in
    let free = sym (rw c.positions_of.ensures at c.no_limit.ensures) ∙ c.if-no_limit.true in
    c.day_set-set.ensures ∙ month_same _ _ a.k _ refl (λ n i. free_part (rule_of a.f.now) a.start a.counts a.k counted n free)

pub picked-requires : goal.picked-requires
picked-requires c =
    let a = c.args in
    let f = rule_of a.f.now in
    let set = c.day_set-set.ensures in
    let e = c.month_days.ensures in (
      omega (arith, e, days_at_most a.k),
      ap (λ (x : ℕ). bit x 0) set ∙ bit_below_mask (λ n. in_set f (day_of a.k n)) _ 1 0 (omega arith),
      rw (e, set) (mask_from_below (λ n. in_set f (day_of a.k n)) (month_days a.k) 1),
    )

pub returns : goal.returns
returns c =
    let a = c.args in
    let m = c.month_counts in
    let counted = sym m.ensures ∙ c.if-not-month_counts.false in
    let limited = sym (rw c.positions_of.ensures at c.no_limit.ensures) ∙ c.if-no_limit.false in
    let set = c.day_set-set.ensures in
    rw (set, c.positions_in.ensures) at c.picked.ensures
    ∙ month_same _ _ a.k _ c.month_days.ensures (λ n i. picked_part (rule_of a.f.now) a.start a.counts a.k counted n limited)
