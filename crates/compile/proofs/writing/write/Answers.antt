-- The frames so far are put, and the place is after them.
use mathlib.Core.Path.{refl, ◌∙◌}
use native.Mathlib.Omega.{arith}
use Rattle.hex_lines.proofs.Puts.{length_put}
use Rattle.compile.proofs.Written.{written_none, all_next, all_end}
use Rattle.compile.proofs.writing.write.Goals as goal

pub loop-row-init : goal.loop-row-init
loop-row-init c = (written_none _ _ _, refl)

pub loop-row-preserved : goal.loop-row-preserved
loop-row-preserved c =
    let v = c.loop-row in
    let a = c.args in
    let w = c.write-at.ensures in
    rw (w.0, w.1)
    (all_next a.plan.now a.rows.now c.requires v.plan v.at v.row-index v.invariant.0 (omega arith) _ c.frame_in.ensures, length_put _ _ _ ∙ v.invariant.1)

pub returns : goal.returns
returns c =
    let v = c.loop-row in
    let a = c.args in
    c.write.ensures.1 ∙ all_end a.plan.now a.rows.now c.requires v.plan v.at v.row-index v.invariant.0 (omega arith)
