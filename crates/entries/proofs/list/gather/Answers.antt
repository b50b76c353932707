-- What is left, taken up in what was read, comes to the whole list.
use Rattle.std.proofs.Common.{arith, sym, ◌∙◌, refl, ◌+◌, length}
use Rattle.words.specs.Reads.{cursor}
use Rattle.entries.proofs.Gathering.{ended_is, rest_not, rest_last, rest_next}
use Rattle.entries.proofs.list.gather.Goals as goal

pub loop-more-init : goal.loop-more-init
loop-more-init g c = record { left = length c.args.s.now + 1; some = omega arith; above = omega arith; same = refl }

pub returns-in_err-more : goal.returns-in_err-more
returns-in_err-more g c =
    c.from_residual.ensures
    ∙ rest_not (g.L.Listed.step c.args.s.now) g.L.Listed.SEPARATOR c.args.s.now _ c.loop-more.m c.loop-more.at c.loop-more.invariant
    c.in_err-more.ensures.value

pub returns-then-byte-SEPARATOR : goal.returns-then-byte-SEPARATOR
returns-then-byte-SEPARATOR g c =
    rest_last (g.L.Listed.step c.args.s.now) g.L.Listed.SEPARATOR c.args.s.now _ c.loop-more.m c.loop-more.at c.loop-more.invariant
    (c.in_ok-more.more, c.in_ok-more.next)
    c.in_ok-more.ensures.value
    (λ q. c.if-byte-SEPARATOR.true (c.byte.ensures ∙ q ∙ sym c.SEPARATOR.ensures))

pub loop-more-preserved : goal.loop-more-preserved
loop-more-preserved g c =
    rest_next (g.L.Listed.step c.args.s.now) g.L.Listed.SEPARATOR c.args.s.now _ c.loop-more.m c.loop-more.at c.loop-more.invariant
    (c.in_ok-more.more, c.in_ok-more.next)
    c.in_ok-more.ensures.value
    g.met.L.Listed.marks
    (c.in_ok-more.ensures.onward (c.in_ok-more.more, c.in_ok-more.next.at) (ended_is _ (c.in_ok-more.more, c.in_ok-more.next) c.in_ok-more.ensures.value))
    (sym c.byte.ensures ∙ c.if-byte-SEPARATOR.false ∙ c.SEPARATOR.ensures)
