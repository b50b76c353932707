-- In the window the search over the start's day alone finds it exactly if the rule holds it.
use Prim.Native.Nat.{◌/◌}
use native.Mathlib.Omega.{arith}
use borrow.Author.Tests.{lt-ltb}
use Rattle.good.proofs.Goods.{rule_day_found, start_occurs_lem}
use Rattle.good.proofs.rule.start_held.Goals as goal

pub returns : goal.returns
returns c =
    rw (c.least_day.ensures, c.row_of-row.ensures, lt-ltb _ _ c.if-f-ge-MINUTES.false, start_occurs_lem)
    (rule_day_found c.args.f (c.args.f.start / 1440) (omega arith))
