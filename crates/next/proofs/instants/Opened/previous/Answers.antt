-- The stretch at hand is searched before those passed; the first after the loop.
use mathlib.Core.Path.{◌≡◌, sym, ap, ◌∙◌}
use Prim.Native.Nat.{◌+◌, ◌-◌, ◌<◌}
use native.Mathlib.Omega.{arith}
use lib.ListN.{length}
use Rattle.zone.proofs.Held.{held_at, held_offset}
use Rattle.zone.proofs.Stretches.{stretch_first, stretch_within, stretch_offset_range}
use Rattle.zone.specs.Held.{offsets_of}
use Rattle.zone.specs.Stretches.{stretch_from, stretch_offset}
use Rattle.next.specs.Nearest.{After}
use Rattle.next.proofs.Answered.{latest_answer}
use Rattle.next.proofs.Nearer.{nearest_start, after_through, latest_top}
use Rattle.next.proofs.Parts.{no_minutes, Stretch, stretch_before, previous_whole}
use Rattle.next.proofs.Walked.{first_held, from_there, last_end}
use Rattle.next.proofs.instants.Opened.previous.Goals as goal
use Rattle.next.proofs.instants.Opened.previous.Goals.{After-end_before-from}

within : (c : After-end_before-from) → c.loop-k.k - 1 < length (offsets_of c.args.self.now.zone.now).changes
within c = omega (arith, ap length c.held-held.ensures)

-- the stretch at hand
stretch : (c : After-end_before-from)
    → (let z = offsets_of c.args.self.now.zone.now in let v = c.loop-k in Stretch z v.k (held_at z (v.k - 1)).offset c.end_before-from.result v.end)
stretch c =
    let z = offsets_of c.args.self.now.zone.now in
    let v = c.loop-k in
    let k : v.k - 1 + 1 ≡ v.k = omega arith in
    record {
      by = sym (held_offset z (v.k - 1) (within c)) ∙ ap (stretch_offset z) k;
      first = (rw c.held-held.ensures at c.end_before-from.ensures)
          ∙ from_there z (v.k - 1) c.stretch_offset.result (within c) c.stretch_offset.ensures
          ∙ ap (stretch_from z) k;
      past = v.invariant.0;
    }

pub loop-k-init : goal.loop-k-init
loop-k-init c =
    let z = offsets_of c.args.self.now.zone.now in
    (last_end z _ (omega (arith, ap length c.held-held.ensures)), nearest_start _ _ _ (λ j h l. no_minutes _ z 52596000 j h.0))

pub invariant_of-stretch : goal.invariant_of-stretch
invariant_of-stretch c =
    let z = offsets_of c.args.self.now.zone.now in
    let v = c.loop-k in
    record {
      in_range = rw c.held-held.ensures (omega (arith, (stretch (goal.at.invariant_of-stretch c).After-end_before-from).by, (stretch_offset_range z c.args.self.now.limited v.k).upto));
      in_window = omega (arith, v.invariant.0, stretch_within z (v.k + 1));
    }

pub previous-best-requires : goal.previous-best-requires
previous-best-requires c = (omega (arith, c.min-before.ensures), omega (arith, c.min-before.ensures, latest_top _ _ _ c.loop-k.invariant.1))

pub loop-k-preserved : goal.loop-k-preserved
loop-k-preserved c =
    let s = stretch (goal.at.loop-k-preserved c).After-end_before-from in
    let z = offsets_of c.args.self.now.zone.now in
    let v = c.loop-k in
    let k : v.k ≡ v.k - 1 + 1 = omega arith in (
      s.first ∙ ap (stretch_from z) k,
      stretch_before _ z c.args.self.now.limited v.k _ _ _ s After after_through (λ j. j < c.min-before.result) _ _ _ (rw c.held-held.ensures at c.previous-best.ensures) 52596000 (omega (arith, v.invariant.0, stretch_within z (v.k + 1))) v.invariant.1,
    )

pub invariant_of-first : goal.invariant_of-first
invariant_of-first c =
    let z = offsets_of c.args.self.now.zone.now in
    let v = c.loop-k in
    record {
      in_range = omega (arith, first_held c.args.self.now.zone.now, (stretch_offset_range z c.args.self.now.limited 0).upto);
      in_window = omega (arith, v.invariant.0, stretch_within z (v.k + 1));
    }

pub previous-instant-requires : goal.previous-instant-requires
previous-instant-requires c = (omega (arith, c.min-before.ensures), omega (arith, c.min-before.ensures, latest_top _ _ _ c.loop-k.invariant.1))

pub returns : goal.returns
returns c =
    let w = c.args.self.now.zone.now in
    let z = offsets_of w in
    let v = c.loop-k in
    let k : v.k + 1 ≡ 0 + 1 = omega arith in
    let s : Stretch z 0 w.first 0 v.end = record { by = first_held w; first = sym (stretch_first z); past = v.invariant.0 ∙ ap (stretch_from z) k } in
    let e =
    previous_whole _ z c.args.self.now.limited c.args.asked c.min-before.result _ (omega (arith, c.min-before.ensures))
    (stretch_before _ z c.args.self.now.limited 0 _ _ _ s After after_through (λ j. j < c.min-before.result) _ _ _ c.previous-instant.ensures 52596000 (omega (arith, v.invariant.0, stretch_within z (v.k + 1))) v.invariant.1) in
    rw c.then_some.ensures (latest_answer _ z c.args.self.now.limited c.args.asked c.previous-instant.result e)
