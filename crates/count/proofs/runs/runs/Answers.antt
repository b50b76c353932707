-- The loop's invariant: the bits kept below `at`, where a run begins.
use Rattle.count.proofs.RunBits.{kept_first, kept_next}
use Rattle.count.proofs.runs.runs.Goals as goal

pub loop-at-init : goal.loop-at-init
loop-at-init c =
    let a = c.args in
    rw (c.span-kept.ensures, c.saturating_sub.ensures)
    (kept_first a.mask a.n a.x a.width a.turn a.len c.requires)

pub loop-at-preserved : goal.loop-at-preserved
loop-at-preserved c =
    let a = c.args in
    let v = c.loop-at in
    rw c.span-kept-in-loop-at.ensures (kept_next a.mask a.n a.x a.width a.turn a.len c.requires v.at v.kept v.invariant)
