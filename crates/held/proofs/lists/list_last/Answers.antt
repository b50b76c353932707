-- The answer of the search is the definition's, since there is one last minute.
use mathlib.Core.Path.{sym, ◌∙◌}
use mathlib.Core.Logic.{dite}
use Prim.Native.Nat.{◌-◌, ◌<◌}
use native.Mathlib.Decide.{dec_lt}
use native.Mathlib.Omega.{arith}
use Rattle.calendar.proofs.Leasts.{last_none}
use Rattle.days.proofs.Answers.{last_is, last_empty}
use Rattle.held.specs.Lists.{list_held, list_last}
use Rattle.held.proofs.Excepted.{nothing_below, found_last, before_excepted}
use Rattle.held.proofs.Joined.{excepts_is}
use Rattle.held.proofs.lists.list_last.Goals as goal

pub returns-then-past-low : goal.returns-then-past-low
unfolding list_last
returns-then-past-low c =
    let a = c.args in
    let l = a.fs.now in
    let v = c.loop-to in
    rw (← c.min-end.ensures)
    (last_is (list_held l) a.low c.min-end.result _ (omega arith) (nothing_below l a.low v.to c.min-end.result _ v.invariant.1 c.any_last-past.ensures (omega arith) c.if-past-low.true))

pub returns-then-not-excepted : goal.returns-then-not-excepted
unfolding list_last
returns-then-not-excepted c =
    let a = c.args in
    let l = a.fs.now in
    let v = c.loop-to in
    rw (← c.min-end.ensures)
    (last_is (list_held l) a.low c.min-end.result _ (omega arith) (found_last l a.low v.to c.min-end.result _ v.invariant.1 c.any_last-past.ensures v.invariant.0 (omega arith) (excepts_is c.args.fs.now (c.any_last-past.result - 1) ∙ sym c.excepted.ensures ∙ c.if-not-excepted.true)))

pub loop-to-preserved : goal.loop-to-preserved
loop-to-preserved c =
    let a = c.args in
    let v = c.loop-to in
    (omega (arith, c.any_last-past.ensures.to), before_excepted a.fs.now a.low v.to c.min-end.result _ v.invariant.1 c.any_last-past.ensures (excepts_is c.args.fs.now (c.any_last-past.result - 1) ∙ sym c.excepted.ensures ∙ c.if-not-excepted.false))

pub returns : goal.returns
unfolding list_last
returns c =
    let a = c.args in
    let l = a.fs.now in
    rw (← c.min-end.ensures)
    (dite (dec_lt a.low c.min-end.result)
    (λ (h : a.low < c.min-end.result). last_is (list_held l) a.low c.min-end.result _ (omega arith) (last_none (list_held l) a.low c.min-end.result (omega arith) (λ j u w. c.loop-to.invariant.1 j (omega arith) w)))
    (λ (h : a.low < c.min-end.result → ⊥). last_empty (list_held l) a.low c.min-end.result (omega arith)))
