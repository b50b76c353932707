-- The counts of the months passed, and what the places that are left can still reach.
use native.Mathlib.Omega.{arith}
use mathlib.Core.Path.{◌≡◌, sym, ap}
use Prim.Native.Nat.{ℕ, ◌+◌, ◌-◌, ◌*◌, ◌^◌}
use Rattle.frames.specs.Numbers.{rule_of}
use Rattle.frames.specs.Years.{day_count}
use Rattle.frames.proofs.YearSets.{count_small, outer_below, shifted_count, more_in_front, no_months, reach_on, reach_stops, reach_none}
use Rattle.frames.proofs.years.from_front.Goals as goal

pub loop-m-init : goal.loop-m-init
loop-m-init c =
    let g = day_count (rule_of c.args.g.now) in
    let y = c.args.y in
    let e : 12 * y + 0 ≡ 12 * y = omega arith in
    (no_months g (12 * y), rw e (omega arith))

pub returns-then-left-lt2 : goal.returns-then-left-lt2
returns-then-left-lt2 c =
    let g = day_count (rule_of c.args.g.now) in
    let v = c.loop-m in
    record { months = omega (arith, v.invariant.1, reach_stops g v.left (12 - v.m) (12 * c.args.y + v.m) c.if-left-lt2.true); most = omega arith; counts = v.invariant.0 }

pub overflow_add-counts : goal.overflow_add-counts
overflow_add-counts c =
    let g = day_count (rule_of c.args.g.now) in
    let v = c.loop-m in
    let small = count_small (rule_of c.args.g.now) in
    let e = c.day_count-here.ensures in
    rw (shifted_count c.day_count-here.result v.m (omega (arith, e, small (12 * c.args.y + v.m))) (omega arith))
    (omega (arith, outer_below g small (12 * c.args.y) (v.m + 1) 0, more_in_front g (12 * c.args.y) v.m (omega arith), v.invariant.0, ap (λ (x : ℕ). x * 32 ^ v.m) e))

pub overflow_shr-left : goal.overflow_shr-left
overflow_shr-left c = omega (arith, c.day_count-here.ensures, count_small (rule_of c.args.g.now) (12 * c.args.y + c.loop-m.m))

pub loop-m-preserved : goal.loop-m-preserved
loop-m-preserved c =
    let g = day_count (rule_of c.args.g.now) in
    let v = c.loop-m in
    let first : ℕ = 12 * c.args.y in
    let small = count_small (rule_of c.args.g.now) in
    let e = c.day_count-here.ensures in
    let i : first + v.m + 1 ≡ first + (v.m + 1) = omega arith in
    let r = rw i at (reach_on g v.left v.m (first + v.m) (omega arith) (omega (arith, c.if-left-lt2.false))) in (
      rw (shifted_count c.day_count-here.result v.m (omega (arith, e, small (first + v.m))) (omega arith), v.invariant.0, e) (sym (more_in_front g first v.m (omega arith))),
      rw e (omega (arith, v.invariant.1, r)),
    )

pub returns : goal.returns
returns c =
    let g = day_count (rule_of c.args.g.now) in
    let v = c.loop-m in
    let e : v.m ≡ 12 = omega arith in
    record { months = omega (arith, v.invariant.1, reach_none g v.left v.m (12 * c.args.y + v.m) (omega arith)); most = omega arith; counts = rw e at v.invariant.0 }
