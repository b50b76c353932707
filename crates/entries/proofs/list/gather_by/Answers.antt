-- What is left leads to what the whole list may come to.
use Rattle.std.proofs.Common.{arith, sym, ◌∙◌, refl, ◌+◌, length}
use Rattle.entries.proofs.Leading.{leads_not, leads_last, leads_next, leads_gathered}
use Rattle.entries.proofs.list.gather_by.Goals as goal

pub loop-made-init : goal.loop-made-init
loop-made-init g c = record { left = length c.args.s.now + 1; some = omega arith; above = omega arith; leads = λ r l. l }

pub returns-in_err-made-clause-led : goal.returns-in_err-made-clause-led
returns-in_err-made-clause-led g c =
    let n = leads_not (g.L.Steps.step c.args.list.now) (g.L.Steps.separator c.args.list.now) c.args.s.now _ c.loop-made.m c.loop-made.at c.loop-made.invariant
    c.in_err-made.ensures.answer in
    rw c.from_residual.ensures n

pub returns-in_err-made-clause-gathered : goal.returns-in_err-made-clause-gathered
returns-in_err-made-clause-gathered g c = λ t h. leads_gathered _ _ c.args.s.now t h _ _ _ _ (returns-in_err-made-clause-led g c)

pub returns-then-byte-separator-clause-led : goal.returns-then-byte-separator-clause-led
returns-then-byte-separator-clause-led g c =
    leads_last (g.L.Steps.step c.args.list.now) (g.L.Steps.separator c.args.list.now) c.args.s.now _ c.loop-made.m c.loop-made.at c.loop-made.invariant
    (c.in_ok-made.made, c.in_ok-made.next)
    c.in_ok-made.ensures.answer
    (c.in_ok-made.ensures.onward (c.in_ok-made.made, c.in_ok-made.next) refl)
    (λ q. c.if-byte-separator.true (c.byte.ensures ∙ q ∙ sym c.separator.ensures.value))

pub returns-then-byte-separator-clause-gathered : goal.returns-then-byte-separator-clause-gathered
returns-then-byte-separator-clause-gathered g c = λ t h. leads_gathered _ _ c.args.s.now t h _ _ _ _ (returns-then-byte-separator-clause-led g c)

pub loop-made-preserved : goal.loop-made-preserved
loop-made-preserved g c =
    leads_next (g.L.Steps.step c.args.list.now) (g.L.Steps.separator c.args.list.now) c.args.s.now _ c.loop-made.m c.loop-made.at c.loop-made.invariant
    (c.in_ok-made.made, c.in_ok-made.next)
    c.in_ok-made.ensures.answer
    (c.in_ok-made.ensures.onward (c.in_ok-made.made, c.in_ok-made.next) refl)
    (rw c.separator.ensures.value at c.separator.ensures.mark)
    (sym c.byte.ensures ∙ c.if-byte-separator.false ∙ c.separator.ensures.value)
