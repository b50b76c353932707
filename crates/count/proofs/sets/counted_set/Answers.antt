-- Before the start nothing is held; from it on the runs of the rule's turns are.
use Prim.Native.Nat.{◌<◌}
use native.Mathlib.Nat.{mod-lt}
use native.Mathlib.Omega.{arith}
use Rattle.calendar.proofs.Windows.{month_days_range}
use Rattle.frames.proofs.MonthDays.{days_at_most, first_at_most}
use Rattle.count.proofs.HeldSets.{none_past, none_held, counted_held}
use Rattle.days.proofs.Walks.{month_end_top}
use Rattle.count.proofs.Turning.{width_range}
use Rattle.count.proofs.sets.counted_set.Goals as goal

pub overflow_add-first : goal.overflow_add-first
overflow_add-first c =
    let k = c.args.k in
    omega (arith, c.month_days-len.ensures, days_at_most k, c.month_first-first.ensures, first_at_most k)

pub returns-then-first-len : goal.returns-then-first-len
returns-then-first-len c =
    let l = c.args.f.now in
    let k = c.args.k in
    none_held l k c.args.set c.requires.2 c.requires.1
    (omega (arith, c.max-from.ensures, c.month_days-len.ensures, c.month_first-first.ensures, (month_days_range k c.requires.0).0))

pub place-place-requires : goal.place-place-requires
place-place-requires c =
    let k = c.args.k in (
      omega (arith, c.width-width.ensures, (width_range c.args.f.now).0),
      omega (arith, c.max-from.ensures),
      omega (arith, c.month_days-len.ensures, c.month_first-first.ensures, month_end_top k c.requires.0),
    )

pub runs-requires : goal.runs-requires
runs-requires c =
    let l = c.args.f.now in
    let k = c.args.k in
    let first = c.month_first-first.ensures in
    let len = c.month_days-len.ensures in
    let from = c.max-from.ensures in
    let width = c.width-width.ensures in
    let turn = c.turn-turn in
    let some : 0 < turn.result = omega (arith, turn.ensures.room, (width_range l).0) in
    record {
      low = omega arith;
      high = omega arith;
      short = omega (arith, len, days_at_most k);
      place = mod-lt _ some;
      narrow = omega (arith, width, (width_range l).1);
      room = omega (arith, width, turn.ensures.room);
      small = turn.ensures.small;
      none = λ j h. none_past l k c.args.set c.requires.2 j (omega (arith, len));
    }

pub returns : goal.returns
returns c =
    let l = c.args.f.now in
    let k = c.args.k in
    let first = c.month_first-first.ensures in
    let len = c.month_days-len.ensures in
    let from = c.max-from in
    let width = c.width-width.ensures in
    counted_held l k c.args.set c.requires.2 c.requires.1 from.result c.turn-turn.result c.runs.result
    c.turn-turn.ensures
    (rw first at from.ensures) (rw (first, len, c.place-place.ensures, width) at c.runs.ensures)
