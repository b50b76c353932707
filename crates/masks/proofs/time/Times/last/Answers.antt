-- An earlier minute of t's hour, or else an earlier hour.
use mathlib.Core.Bool.{true}
use mathlib.Core.Path.{sym, ◌≡◌, ◌∙◌}
use Prim.Native.Nat.{◌/◌, ◌%◌}
use native.Mathlib.Omega.{arith}
use Rattle.masks.specs.Masks.{bit}
use Rattle.masks.proofs.Nexts.{previous_bit_at_most}
use Rattle.masks.proofs.Times.{this_hour_last, earlier_hour, earlier_minute, last_time_past}
use Rattle.masks.proofs.time.Times.last.Goals as goal
use Rattle.masks.proofs.time.Times.last.Goals.{then-test+else-end-gt0, else-test}

pub returns-then-t-gt-LAST_OF_DAY : goal.returns-then-t-gt-LAST_OF_DAY
returns-then-t-gt-LAST_OF_DAY c = c.before_hour.ensures ∙ sym (last_time_past _ _ _ c.if-t-gt-LAST_OF_DAY.true)

pub overflow_add-result : goal.overflow_add-result
overflow_add-result c =
    let a = c.args in
    omega (arith, c.previous_bit-end.ensures, previous_bit_at_most a.self.minutes (a.t % 60))

pub returns-then-end-gt0 : goal.returns-then-end-gt0
returns-then-end-gt0 c =
    let a = c.args in
    let b : bit a.self.hours (a.t / 60) ≡ true =
    sym c.test.ensures ∙ c.if-test.true in
    rw c.previous_bit-end.ensures
    (this_hour_last a.self.hours a.self.minutes a.t (omega arith) b (omega (arith, c.previous_bit-end.ensures)))

pub returns : goal.returns
returns c =
    let a = c.args in
    c.before_hour-2.ensures
    ∙ elim c.if-test.branch [
      | then-test+else-end-gt0 w ↦ earlier_minute a.self.hours a.self.minutes a.t (omega arith) (omega (arith, w.previous_bit-end.ensures, w.if-end-gt0.false))
      | else-test w ↦ earlier_hour a.self.hours a.self.minutes a.t (omega arith) (sym c.test.ensures ∙ w.if-test.false)
    ]
