-- Each turn passes a month that holds fewer days than are left to count: what is left starts with the next month.
use mathlib.Core.Bool.{false≢true}
use mathlib.Core.Path.{◌≡◌, refl, sym, ap, ◌∙◌}
use Prim.Native.Nat.{◌+◌, ◌-◌, ◌/◌}
use native.Mathlib.Omega.{arith}
use Rattle.calendar.proofs.Windows.{month_days_range, month_first_end}
use Rattle.calendar.specs.Window.{month_first}
use Rattle.frames.proofs.MonthDays.{first_at_most, days_at_most}
use Rattle.frames.specs.Months.{day_of}
use Rattle.masks.specs.Masks.{bit}
use Rattle.days.proofs.Nths.{nth_lies}
use Rattle.count.proofs.NthDays.{day_below, nth_day_past, nth_day_here, nth_day_on}
use Rattle.frames.specs.Years.{year_counts}
use Rattle.frames.proofs.YearSets.{counts_same}
use Rattle.count.proofs.nth_from.Goals as goal
use Rattle.count.proofs.nth_from.Goals.{then-placed, else-placed}

pub loop-k-init : goal.loop-k-init
loop-k-init c =
    let i = c.requires.1 in
    (λ h. i, omega (arith, day_below _ _ i), c.requires.2, refl, c.year_counts-counts.ensures)

pub nth_bit-requires : goal.nth_bit-requires
nth_bit-requires c =
    let v = c.loop-k in
    let i = v.invariant.0 (omega arith) in
    (omega (arith, i.high, days_at_most v.k), v.invariant.2)

pub overflow_add-result : goal.overflow_add-result
overflow_add-result c =
    let v = c.loop-k in
    let i = v.invariant.0 (omega arith) in
    let set = c.held_set-set.result in
    omega (
      arith,
      c.month_first.ensures,
      first_at_most v.k,
      c.nth_bit.ensures,
      (nth_lies (bit set) v.left (64 - v.n) v.n).1,
      i.high,
      days_at_most v.k,
    )

pub overflow_sub-result : goal.overflow_sub-result
overflow_sub-result c =
    let v = c.loop-k in
    let i = v.invariant.0 (omega arith) in
    let set = c.held_set-set.result in
    omega (arith, c.nth_bit.ensures, (nth_lies (bit set) v.left (64 - v.n) v.n).0, i.low)

pub returns-then-left-here : goal.returns-then-left-here
returns-then-left-here c =
    let l = c.args.f.now in
    let v = c.loop-k in
    let i = v.invariant.0 (omega arith) in
    let set = c.held_set-set in
    let e = c.count_from-here.ensures in
    rw (c.month_first.ensures, c.nth_bit.ensures)
    (nth_day_here l v.k v.n i set.result set.ensures v.left v.invariant.2 (omega (arith, e)) ∙ sym v.invariant.3)

pub loop-k-preserved : goal.loop-k-preserved
loop-k-preserved c =
    let l = c.args.f.now in
    let v = c.loop-k in
    let i = v.invariant.0 (omega arith) in
    let set = c.held_set-set in
    let e = c.count_from-here.ensures in
    let kept : c.if-placed.counts ≡ year_counts l ((v.k + 1) / 12) =
    elim c.if-placed.branch [
      | then-placed w ↦ w.counts-is ∙ w.counts_on-counts.ensures
      | else-placed w ↦ w.counts-is ∙ v.invariant.4 ∙ counts_same l _ _ (λ t. absurd (false≢true (sym w.if-placed.false ∙ c.is_placed-placed.ensures ∙ t)))
    ] in (
      λ h. record { month = h; low = omega arith; high = omega (arith, (month_days_range (v.k + 1) h).0) },
      omega (arith, first_at_most (v.k + 1)),
      omega arith,
      rw e (v.invariant.3 ∙ nth_day_on l v.k v.n i set.result set.ensures v.left (omega (arith, e))),
      kept,
    )

pub returns : goal.returns
returns c =
    let l = c.args.f.now in
    let v = c.loop-k in
    let k : v.k ≡ 1200 = omega arith in
    let e : 36525 ≡ day_of v.k v.n = omega (arith, ap month_first k, month_first_end, v.invariant.1) in
    e ∙ nth_day_past l v.left (day_of v.k v.n) (omega arith) ∙ sym v.invariant.3
