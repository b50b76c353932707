-- The part before the cut has the last minute of the whole, since there is one.
use mathlib.Core.Path.{sym}
use native.Mathlib.Omega.{arith}
use lib.Dec.{eqb}
use lib.ListN.{get_or}
use Rattle.calendar.proofs.Leasts.{last_same}
use Rattle.held.specs.Minutes.{minute_part, frame_held}
use Rattle.held.specs.Minutes.{last_minute}
use Rattle.days.proofs.Answers.{last_is, last_empty}
use Rattle.held.proofs.Cuts.{extra_held, cut_last, cut_last_empty}
use Rattle.held.proofs.minutes.last_minute.Goals as goal

pub returns-then-end-low : goal.returns-then-end-low
unfolding last_minute
returns-then-end-low c =
    let a = c.args in
    let l = a.f.now in
    rw (← c.min-end.ensures) (last_empty (frame_held l) a.low c.min-end.result c.if-end-low.true)

pub returns-then-f-eq-EXTRA : goal.returns-then-f-eq-EXTRA
unfolding last_minute
returns-then-f-eq-EXTRA c =
    let a = c.args in
    let l = a.f.now in
    rw (← c.min-end.ensures)
    (last_is (frame_held l) a.low c.min-end.result _ (omega arith) (last_same (λ m. eqb m (get_or l 1 0)) (frame_held l) a.low c.min-end.result _ (λ j u v. sym (extra_held l c.if-f-eq-EXTRA.true j)) c.last_one.ensures))

pub returns-then-top-low : goal.returns-then-top-low
unfolding last_minute
returns-then-top-low c =
    let a = c.args in
    let l = a.f.now in
    rw (← c.min-end.ensures)
    (last_is (frame_held l) a.low c.min-end.result _ (omega arith) (cut_last_empty (minute_part l) (frame_held l) a.low c.min-end.result c.cut-top.result 0 c.cut-top.ensures (omega arith) c.if-top-low.true))

pub returns : goal.returns
unfolding last_minute
returns c =
    let a = c.args in
    let l = a.f.now in
    rw (← c.min-end.ensures)
    (last_is (frame_held l) a.low c.min-end.result _ (omega arith) (cut_last (minute_part l) (frame_held l) a.low c.min-end.result _ _ c.cut-top.ensures c.last_part.ensures))
