-- The last hour before, and the last minute of any hour.
use mathlib.Core.Path.{sym, ◌∙◌}
use native.Mathlib.Omega.{arith}
use Rattle.masks.proofs.Nexts.{previous_bit_at_most}
use Rattle.masks.proofs.Times.{no_hour_before, no_minute_before, last_hour_time}
use Rattle.masks.proofs.time.Times.before_hour.Goals as goal
use Rattle.masks.proofs.time.Times.before_hour.Goals.{then-past-eq0-via-then-past-eq0, then-past-eq0-via-else-past-eq0+then-end-eq0}

pub returns-then-past-eq0 : goal.returns-then-past-eq0
returns-then-past-eq0 c =
    let a = c.args in
    elim c.then-past-eq0.branch [
      | then-past-eq0-via-then-past-eq0 w ↦ no_hour_before a.self.hours a.self.minutes a.hour c.requires (sym c.previous_bit-past.ensures ∙ w.if-past-eq0.true)
      | then-past-eq0-via-else-past-eq0+then-end-eq0 w ↦ no_minute_before a.self.hours a.self.minutes a.hour c.requires (sym c.previous_bit-end.ensures ∙ w.if-end-eq0.true)
    ]

pub overflow_mul-result : goal.overflow_mul-result
overflow_mul-result c =
    let a = c.args in
    omega (arith, c.previous_bit-past.ensures, previous_bit_at_most a.self.hours a.hour)

pub overflow_add-result : goal.overflow_add-result
overflow_add-result c =
    let a = c.args in
    omega
    (arith, c.previous_bit-past.ensures, previous_bit_at_most a.self.hours a.hour, c.previous_bit-end.ensures, previous_bit_at_most a.self.minutes 60)

pub returns : goal.returns
returns c =
    let a = c.args in
    let past = c.previous_bit-past.ensures in
    let end = c.previous_bit-end.ensures in
    rw (past, end) (last_hour_time a.self.hours a.self.minutes a.hour (omega arith) (omega (arith, past)) (omega (arith, end)))
