-- The next hour, and the first minute of any hour.
use mathlib.Core.Path.{sym}
use native.Mathlib.Omega.{arith}
use Rattle.masks.proofs.Times.{hours_none, minutes_none, next_hour_time}
use Rattle.masks.proofs.time.Times.from_hour.Goals as goal

pub returns-then-next-gt23 : goal.returns-then-next-gt23
returns-then-next-gt23 c =
    let a = c.args in
    sym (hours_none a.self.hours a.self.minutes a.hour (omega (arith, c.next_bit-next.ensures)))

pub returns-then-first-gt59 : goal.returns-then-first-gt59
returns-then-first-gt59 c =
    let a = c.args in
    sym (minutes_none a.self.hours a.self.minutes a.hour (omega (arith, c.next_bit-first.ensures)))

pub returns : goal.returns
returns c =
    let a = c.args in
    let next = c.next_bit-next.ensures in
    let first = c.next_bit-first.ensures in
    rw (next, first) (next_hour_time a.self.hours a.self.minutes a.hour (omega (arith, next)) (omega (arith, first)))
