-- Only the period of the day before, or one further back, can count.
use native.Mathlib.Omega.{arith}
use Rattle.days.proofs.Intervals.{none_before_start, last_counted}
use Rattle.days.proofs.counted.period_before.Goals as goal

pub returns-then-d-f : goal.returns-then-d-f
returns-then-d-f c = none_before_start c.args.f.now c.requires.1 c.args.d c.if-d-f.true

pub returns : goal.returns
returns c =
    let a = c.args in
    let over = c.periods_over-over.ensures in
    rw (c.begin.ensures, c.period.ensures, over)
    (last_counted a.f.now a.periods c.requires.1 c.requires.2 a.d (omega arith) c.requires.0 (omega (arith, over)))
