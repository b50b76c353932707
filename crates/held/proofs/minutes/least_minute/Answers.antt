-- The part before the cut has the least minute of the whole, since there is one.
use mathlib.Core.Path.{sym}
use native.Mathlib.Omega.{arith}
use lib.Dec.{eqb}
use lib.ListN.{get_or}
use Rattle.calendar.proofs.Leasts.{least_same}
use Rattle.held.specs.Minutes.{minute_part, frame_held}
use Rattle.held.specs.Minutes.{least_minute}
use Rattle.days.proofs.Answers.{least_is, least_empty}
use Rattle.held.proofs.Cuts.{extra_held, cut_found, cut_none, cut_empty}
use Rattle.held.proofs.minutes.least_minute.Goals as goal

pub returns-then-end-low : goal.returns-then-end-low
unfolding least_minute
returns-then-end-low c =
    let a = c.args in
    let l = a.f.now in
    rw (← c.min-end.ensures) (least_empty (frame_held l) a.low c.min-end.result c.if-end-low.true)

pub returns-then-f-eq-EXTRA : goal.returns-then-f-eq-EXTRA
unfolding least_minute
returns-then-f-eq-EXTRA c =
    let a = c.args in
    let l = a.f.now in
    rw (← c.min-end.ensures)
    (least_is (frame_held l) a.low c.min-end.result _ (omega arith) (least_same (λ m. eqb m (get_or l 1 0)) (frame_held l) a.low c.min-end.result _ (λ j u v. sym (extra_held l c.if-f-eq-EXTRA.true j)) c.least_one.ensures))

pub returns-then-top-low : goal.returns-then-top-low
unfolding least_minute
returns-then-top-low c =
    let a = c.args in
    let l = a.f.now in
    rw (← c.min-end.ensures)
    (least_is (frame_held l) a.low c.min-end.result _ (omega arith) (cut_empty (minute_part l) (frame_held l) a.low c.min-end.result c.cut-top.result 0 c.cut-top.ensures (omega arith) c.if-top-low.true))

pub returns-then-minute-top : goal.returns-then-minute-top
unfolding least_minute
returns-then-minute-top c =
    let a = c.args in
    let l = a.f.now in
    rw (← c.min-end.ensures)
    (least_is (frame_held l) a.low c.min-end.result _ (omega arith) (cut_found (minute_part l) (frame_held l) a.low c.min-end.result _ _ c.cut-top.ensures c.least_part-minute.ensures c.if-minute-top.true))

pub returns : goal.returns
unfolding least_minute
returns c =
    let a = c.args in
    let l = a.f.now in
    rw (← c.min-end.ensures)
    (least_is (frame_held l) a.low c.min-end.result _ (omega arith) (cut_none (minute_part l) (frame_held l) a.low c.min-end.result _ _ c.cut-top.ensures (omega arith) c.least_part-minute.ensures c.if-minute-top.false))
