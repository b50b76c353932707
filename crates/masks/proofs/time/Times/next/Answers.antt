-- A later minute of t's hour, or else a later hour.
use mathlib.Core.Bool.{true}
use mathlib.Core.Path.{sym, ◌≡◌, ◌∙◌}
use Prim.Native.Nat.{◌/◌}
use native.Mathlib.Omega.{arith}
use Rattle.masks.specs.Masks.{bit}
use Rattle.masks.proofs.Times.{this_hour_time, later_hour, later_minute, next_time_past}
use Rattle.masks.proofs.time.Times.next.Goals as goal
use Rattle.masks.proofs.time.Times.next.Goals.{then-test+else-minute-lt60, else-test}

pub returns-then-t-gt-LAST_OF_DAY : goal.returns-then-t-gt-LAST_OF_DAY
returns-then-t-gt-LAST_OF_DAY c = sym (next_time_past _ _ _ c.if-t-gt-LAST_OF_DAY.true)

pub returns-then-minute-lt60 : goal.returns-then-minute-lt60
returns-then-minute-lt60 c =
    let a = c.args in
    let b : bit a.self.hours (a.t / 60) ≡ true =
    sym c.test.ensures ∙ c.if-test.true in
    rw c.next_bit-minute.ensures
    (this_hour_time a.self.hours a.self.minutes a.t (omega arith) b (omega (arith, c.next_bit-minute.ensures)))

pub returns : goal.returns
returns c =
    let a = c.args in
    c.from_hour.ensures
    ∙ elim c.if-test.branch [
      | then-test+else-minute-lt60 w ↦ later_minute a.self.hours a.self.minutes a.t (omega arith) (omega (arith, w.next_bit-minute.ensures, w.if-minute-lt60.false))
      | else-test w ↦ later_hour a.self.hours a.self.minutes a.t (omega arith) (sym c.test.ensures ∙ w.if-test.false)
    ]
