-- What is left of the sheet makes the answer, and the rows that are left to store the rows.
use Rattle.std.specs.Prelude.{Err}
use mathlib.Core.Path.{refl, sym, ap, ◌∙◌}
use native.Mathlib.Omega.{arith}
use Rattle.lines.proofs.Ends.{end_least}
use Rattle.compile.proofs.Rounds.{left_first, left_none, left_small, left_tail, left_room, left_refused, left_stepped}
use Rattle.compile.proofs.reading.read.Goals as goal

pub loop-at-init : goal.loop-at-init
loop-at-init c = rw c.start-state.ensures (left_first _ _ c.requires)

pub returns-then-sheet-end : goal.returns-then-sheet-end
returns-then-sheet-end c =
    let v = c.loop-at in
    let a = c.args in
    let end = c.line_end-end.ensures in
    let l = left_tail a.sheet.now a.rows.now v.rows v.at v.state v.invariant (omega arith) (omega (arith, end)) in
    record { answer = ap Err c.bad.ensures ∙ rw end l.0; rows = l.1; small = refl }

pub slice_bounds-step-count : goal.slice_bounds-step-count
slice_bounds-step-count c = let v = c.loop-at in omega (arith, c.line_end-end.ensures, (end_least c.args.sheet.now v.at v.invariant.within).from)

pub slice_bounds-step-start : goal.slice_bounds-step-start
slice_bounds-step-start c = let v = c.loop-at in omega (arith, c.line_end-end.ensures, (end_least c.args.sheet.now v.at v.invariant.within).from)

pub step-requires : goal.step-requires
step-requires c =
    let v = c.loop-at in
    let a = c.args in
    let room = left_room a.sheet.now a.rows.now v.rows v.at v.state v.invariant (omega (arith, c.line_end-end.ensures)) in
    record { lines_bound = omega (arith, room, v.invariant.lines); frames_bound = room; bytes_bound = omega (arith, room, v.invariant.bytes) }

pub overflow_sub-end-in-Err : goal.overflow_sub-end-in-Err
overflow_sub-end-in-Err c = let v = c.loop-at in omega (arith, c.line_end-end.ensures, (end_least c.args.sheet.now v.at v.invariant.within).from)

pub returns-in-Err : goal.returns-in-Err
returns-in-Err c =
    let v = c.loop-at in
    let a = c.args in
    let end = c.line_end-end.ensures in
    let p = rw end at c.in-Err.ensures in
    let l = left_refused a.sheet.now a.rows.now v.rows v.at v.state v.invariant (omega (arith, end)) _ _ (sym p.answer) p.rows in
    record { answer = ap Err c.bad-in-Err.ensures ∙ rw end l.0; rows = l.1; small = refl }

pub loop-at-smaller : goal.loop-at-smaller
loop-at-smaller c =
    let v = c.loop-at in omega (arith, c.line_end-end.ensures, (end_least c.args.sheet.now v.at v.invariant.within).from)

pub loop-at-preserved : goal.loop-at-preserved
loop-at-preserved c =
    let v = c.loop-at in
    let a = c.args in
    let end = c.line_end-end.ensures in
    let p = rw end at c.in-Ok.ensures in
    rw end (left_stepped a.sheet.now a.rows.now v.rows v.at v.state v.invariant (omega (arith, end)) _ _ (sym p.answer) p.rows)

pub returns : goal.returns
returns c =
    let v = c.loop-at in
    let a = c.args in
    let l = left_none a.sheet.now a.rows.now v.rows v.at v.state v.invariant (omega arith) in
    record { answer = c.ended.ensures ∙ l.0; rows = l.1; small = rw c.ended.ensures (left_small a.sheet.now a.rows.now v.rows v.at v.state v.invariant) }
