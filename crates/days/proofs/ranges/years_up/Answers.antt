-- What is passed up to a year and in it; the days left fall.
use native.Mathlib.Omega.{arith}
use Prim.Native.Nat.{◌-◌}
use Rattle.days.proofs.YearWalks.{before_year_past, one_year_up}
use Rattle.days.proofs.ranges.years_up.Goals as goal

pub walk_up-found-requires : goal.walk_up-found-requires
walk_up-found-requires c =
    let first = c.year_from-first.result in
    let y = c.year_past.ensures in
    let e = c.min-past.ensures in
    let h = before_year_past first (omega arith) in (
      omega arith,
      omega arith,
      one_year_up first (omega arith) c.args.f.now (c.min-past.result - 1) (omega arith) (omega arith) (omega arith),
    )

pub loop-from-smaller : goal.loop-from-smaller
loop-from-smaller c =
    let first = c.year_from-first in
    let h = before_year_past first.result (omega arith) in
    omega (arith, c.min-past.ensures, c.year_past.ensures, first.ensures.rises)
