-- The loop's invariant: the best so far is the least of the frames passed; the next frame is searched below it.
use mathlib.Core.List.{[]}
use Prim.Native.Nat.{◌+◌}
use native.Mathlib.Omega.{arith}
use lib.ListN.{get_or, take}
use Rattle.held.specs.Lists.{any_held}
use Rattle.held.specs.Minutes.{frame_held}
use Rattle.held.proofs.Joined.{least_either, held_next, least_minute_least}
use Rattle.held.proofs.lists.any_least.Goals as goal

pub loop-f-preserved : goal.loop-f-preserved
loop-f-preserved c =
    let a = c.args in
    let l = a.fs.now in
    let v = c.loop-f in
    let f = get_or l v.f-index [] in
    let so_far = v.invariant in
    least_either (any_held (take v.f-index l)) (frame_held f) (any_held (take (v.f-index + 1) l)) a.low a.high v.best _ (held_next l v.f-index) so_far
    (rw c.least_minute-best.ensures (least_minute_least f a.low v.best (omega (arith, so_far.from, so_far.to)) (omega (arith, so_far.to))))
