-- The counts of the months passed, and what the places that are left can still reach.
use native.Mathlib.Omega.{arith}
use mathlib.Core.Path.{◌≡◌, sym, ap, ◌∙◌}
use Prim.Native.Nat.{ℕ, ◌+◌, ◌-◌, ◌*◌, ◌^◌}
use Rattle.frames.specs.Numbers.{rule_of}
use Rattle.frames.specs.Years.{day_count, reach_back}
use Rattle.frames.proofs.YearSets.{count_small, outer_below, shifted_count, more_in_back, all_months, back_on, back_stops}
use Rattle.frames.proofs.years.from_back.Goals as goal

pub returns-then-left-lt2 : goal.returns-then-left-lt2
returns-then-left-lt2 c =
    let g = day_count (rule_of c.args.g.now) in
    let v = c.loop-m in
    let first : ℕ = 12 * c.args.y in
    let b : reach_back g c.args.mask 12 first ≡ 12 - v.m = omega (arith, v.invariant.1, back_stops g v.left v.m first c.if-left-lt2.true) in
    rw b v.invariant.0

pub overflow_add-counts : goal.overflow_add-counts
overflow_add-counts c =
    let g = day_count (rule_of c.args.g.now) in
    let v = c.loop-m in
    let n : ℕ = v.m - 1 in
    let first : ℕ = 12 * c.args.y in
    let small = count_small (rule_of c.args.g.now) in
    let e = c.day_count-here.ensures in
    let o : n + 1 ≡ v.m = omega arith in
    let more = rw o at (more_in_back g first c.args.front.months n (omega arith) (omega arith)) in
    rw (shifted_count c.day_count-here.result n (omega (arith, e, small (first + n))) (omega arith))
    (omega (arith, outer_below g small first c.args.front.months (12 - n), more, v.invariant.0, ap (λ (x : ℕ). x * 32 ^ n) e))

pub overflow_shr-left : goal.overflow_shr-left
overflow_shr-left c =
    omega (arith, c.day_count-here.ensures, count_small (rule_of c.args.g.now) (12 * c.args.y + (c.loop-m.m - 1)))

pub loop-m-preserved : goal.loop-m-preserved
loop-m-preserved c =
    let g = day_count (rule_of c.args.g.now) in
    let v = c.loop-m in
    let n : ℕ = v.m - 1 in
    let first : ℕ = 12 * c.args.y in
    let small = count_small (rule_of c.args.g.now) in
    let e = c.day_count-here.ensures in
    let o : n + 1 ≡ v.m = omega arith in
    let more = rw o at (more_in_back g first c.args.front.months n (omega arith) (omega arith)) in
    let r = rw o at (back_on g v.left n first (omega (arith, c.if-left-lt2.false))) in (
      rw (shifted_count c.day_count-here.result n (omega (arith, e, small (first + n))) (omega arith), v.invariant.0, e) (sym more),
      rw e (omega (arith, v.invariant.1, r)),
    )

pub returns : goal.returns
returns c =
    let g = day_count (rule_of c.args.g.now) in
    let v = c.loop-m in
    v.invariant.0 ∙ all_months g (12 * c.args.y) c.args.front.months (12 - v.m) _ (omega arith) (omega (arith, v.invariant.1))
