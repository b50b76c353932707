-- Only the period of the day itself, or one further on, can count.
use native.Mathlib.Omega.{arith}
use Prim.Native.Nat.{◌-◌, ◌/◌}
use lib.ListN.{get_or}
use Rattle.days.specs.Steps.{period_of}
use Rattle.days.proofs.Intervals.{from_start, never_again, next_counted, short_none, short_long}
use Rattle.days.proofs.counted.period_from.Goals as goal
use Rattle.days.proofs.counted.period_from.Goals.{then-every-over-via-then-every-over, then-every-over-via-else-every-over+then-every-gt-DAYS}

pub returns-then-d-first : goal.returns-then-d-first
returns-then-d-first c = from_start c.args.f.now c.requires.1 c.args.d _ (omega (arith, c.if-d-first.true))

pub returns-then-every-over : goal.returns-then-every-over
returns-then-every-over c =
    let a = c.args in
    let l = a.f.now in
    let q = a.periods in
    let over = c.periods_over-over.ensures in
    never_again l q c.requires.1 c.requires.2 a.d (omega arith) c.requires.0 (omega (arith, over))
    (elim c.then-every-over.branch [
      | then-every-over-via-then-every-over w ↦ short_none (period_of q a.d - period_of q (get_or l 3 0 / 1440)) (get_or l 2 0) (omega (arith, over, w.if-every-over.true))
      | then-every-over-via-else-every-over+then-every-gt-DAYS w ↦ short_long (get_or l 2 0) w.if-every-gt-DAYS.true
    ])

pub returns : goal.returns
returns c =
    let a = c.args in
    let over = c.periods_over-over.ensures in
    rw (c.begin.ensures, c.period.ensures, over) (next_counted a.f.now a.periods c.requires.1 c.requires.2 a.d (omega arith) (omega (arith, over)) (omega (arith, over)))
