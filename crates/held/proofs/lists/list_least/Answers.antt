-- The answer of the search is the definition's, since there is one least minute.
use mathlib.Core.Path.{sym, ◌∙◌}
use native.Mathlib.Omega.{arith}
use Rattle.calendar.proofs.Leasts.{least_none}
use Rattle.days.proofs.Answers.{least_is, least_empty}
use Rattle.held.specs.Lists.{list_held, list_least}
use Rattle.held.proofs.Excepted.{nothing_left, found_least, past_excepted}
use Rattle.held.proofs.Joined.{excepts_is}
use Rattle.held.proofs.lists.list_least.Goals as goal

pub returns-then-end-low : goal.returns-then-end-low
unfolding list_least
returns-then-end-low c =
    let a = c.args in
    rw (← c.min-end.ensures) (least_empty (list_held a.fs.now) a.low c.min-end.result c.if-end-low.true)

pub returns-then-end-minute : goal.returns-then-end-minute
unfolding list_least
returns-then-end-minute c =
    let a = c.args in
    let l = a.fs.now in
    let v = c.loop-from in
    rw (← c.min-end.ensures)
    (least_is (list_held l) a.low c.min-end.result _ (omega arith) (nothing_left l a.low v.from c.min-end.result _ v.invariant.2 c.any_least-minute.ensures (omega arith) c.if-end-minute.true))

pub returns-then-not-excepted : goal.returns-then-not-excepted
unfolding list_least
returns-then-not-excepted c =
    let a = c.args in
    let l = a.fs.now in
    let v = c.loop-from in
    rw (← c.min-end.ensures)
    (least_is (list_held l) a.low c.min-end.result _ (omega arith) (found_least l a.low v.from c.min-end.result _ v.invariant.2 c.any_least-minute.ensures v.invariant.0 (omega arith) (excepts_is c.args.fs.now c.any_least-minute.result ∙ sym c.excepted.ensures ∙ c.if-not-excepted.true)))

pub loop-from-preserved : goal.loop-from-preserved
loop-from-preserved c =
    let a = c.args in
    let v = c.loop-from in
    (omega (arith, c.any_least-minute.ensures.from), omega arith, past_excepted a.fs.now a.low v.from c.min-end.result _ v.invariant.2 c.any_least-minute.ensures (excepts_is c.args.fs.now c.any_least-minute.result ∙ sym c.excepted.ensures ∙ c.if-not-excepted.false))

pub returns : goal.returns
unfolding list_least
returns c =
    let a = c.args in
    let l = a.fs.now in
    rw (← c.min-end.ensures)
    (least_is (list_held l) a.low c.min-end.result _ (omega arith) (least_none (list_held l) a.low c.min-end.result (omega arith) (λ j u w. c.loop-from.invariant.2 j u (omega arith))))
