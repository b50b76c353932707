-- What is passed down to a year and in it; the days left fall.
use native.Mathlib.Omega.{arith}
use Prim.Native.Nat.{◌-◌, ◌≤◌}
use Rattle.days.proofs.YearWalks.{from_year_first, one_year_down}
use Rattle.days.proofs.ranges.years_down.Goals as goal

pub walk_down-found-requires : goal.walk_down-found-requires
walk_down-found-requires c =
    let end = c.year_before-end in
    let v = c.loop-past in
    let top : end.result ≤ 36525 = omega (arith, end.ensures.rises, v.invariant.1.rises) in
    let y = c.year_first.ensures in
    let e = c.max-first.ensures in
    let h = from_year_first (end.result - 1) (omega arith) in (
      omega arith,
      top,
      one_year_down (end.result - 1) (omega arith) c.args.f.now c.max-first.result (omega arith) (omega arith),
    )

pub loop-past-smaller : goal.loop-past-smaller
loop-past-smaller c =
    let end = c.year_before-end in
    let v = c.loop-past in
    let top : end.result ≤ 36525 = omega (arith, end.ensures.rises, v.invariant.1.rises) in
    let h = from_year_first (end.result - 1) (omega arith) in
    omega (arith, c.max-first.ensures, c.year_first.ensures, end.ensures.rises)
