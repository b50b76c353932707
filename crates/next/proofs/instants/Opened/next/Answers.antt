-- The stretch at hand is searched after those passed; the last after the loop.
use mathlib.Core.Path.{sym, ap, ◌∙◌}
use Prim.Native.Nat.{◌+◌, ◌<◌}
use native.Mathlib.Omega.{arith}
use lib.ListN.{length}
use Rattle.zone.proofs.Held.{held_offset}
use Rattle.zone.proofs.Stretches.{stretch_first, stretch_within, stretch_offset_range}
use Rattle.zone.specs.Held.{offsets_of}
use Rattle.next.specs.Nearest.{Before}
use Rattle.next.proofs.Answered.{earliest_answer}
use Rattle.next.proofs.Nearer.{nearest_start, before_through, earliest_top}
use Rattle.next.proofs.Parts.{no_minutes, Stretch, stretch_after, next_whole}
use Rattle.next.proofs.Walked.{first_held, from_there, last_end}
use Rattle.next.proofs.instants.Opened.next.Goals as goal
use Rattle.next.proofs.instants.Opened.next.Goals.{After-end_before-end}

within : (c : After-end_before-end) → c.loop-change.change-index < length (offsets_of c.args.self.now.zone.now).changes
within c = omega (arith, ap length c.held-change-items.ensures)

-- the stretch at hand
stretch : (c : After-end_before-end)
    → (let v = c.loop-change in Stretch (offsets_of c.args.self.now.zone.now) v.change-index v.offset v.from c.end_before-end.result)
stretch c =
    let v = c.loop-change in
    record {
      by = v.invariant.1;
      first = v.invariant.0;
      past = (rw c.held-change-items.ensures at c.end_before-end.ensures) ∙ from_there (offsets_of c.args.self.now.zone.now) v.change-index v.offset (within c) v.invariant.1;
    }

pub loop-change-init : goal.loop-change-init
loop-change-init c =
    let z = offsets_of c.args.self.now.zone.now in
    (sym (stretch_first z), first_held c.args.self.now.zone.now, nearest_start _ _ _ (λ j h l. no_minutes _ z 0 j h.0))

pub invariant_of-stretch : goal.invariant_of-stretch
invariant_of-stretch c =
    let z = offsets_of c.args.self.now.zone.now in
    let v = c.loop-change in
    record {
      in_range = omega (arith, v.invariant.1, (stretch_offset_range z c.args.self.now.limited v.change-index).upto);
      in_window = omega (arith, (stretch (goal.at.invariant_of-stretch c).After-end_before-end).past, stretch_within z (v.change-index + 1));
    }

pub next-best-requires : goal.next-best-requires
next-best-requires c = (omega (arith, c.min-after.ensures), earliest_top _ _ _ c.loop-change.invariant.2)

pub loop-change-preserved : goal.loop-change-preserved
loop-change-preserved c =
    let e = (goal.at.loop-change-preserved c).After-end_before-end in
    let z = offsets_of c.args.self.now.zone.now in
    let v = c.loop-change in (
      (stretch e).past,
      rw c.held-change-items.ensures (sym (held_offset z v.change-index (within e))),
      stretch_after _ z c.args.self.now.limited v.change-index _ _ _ (stretch e) Before before_through (λ j. c.min-after.result < j) _ _ _ c.next-best.ensures 0 (omega arith) v.invariant.2,
    )

pub invariant_of-last : goal.invariant_of-last
invariant_of-last c =
    let v = c.loop-change in
    record {
      in_range = omega (arith, v.invariant.1, (stretch_offset_range (offsets_of c.args.self.now.zone.now) c.args.self.now.limited v.change-index).upto);
      in_window = omega arith;
    }

pub next-instant-requires : goal.next-instant-requires
next-instant-requires c = (omega (arith, c.min-after.ensures), earliest_top _ _ _ c.loop-change.invariant.2)

pub returns : goal.returns
returns c =
    let z = offsets_of c.args.self.now.zone.now in
    let v = c.loop-change in
    let l = last_end z v.change-index (omega (arith, ap length c.held-change-items.ensures)) in
    let e =
    next_whole _ z c.args.self.now.limited c.args.asked c.min-after.result _ (omega (arith, c.min-after.ensures))
    (stretch_after _ z c.args.self.now.limited v.change-index _ _ _ (record { by = v.invariant.1; first = v.invariant.0; past = l }) Before before_through (λ j. c.min-after.result < j) _ _ _ c.next-instant.ensures 0 (omega arith) v.invariant.2) in
    rw c.then_some.ensures (earliest_answer _ z c.args.self.now.limited c.args.asked c.next-instant.result e)
