-- The rows of a plan that is taken are ready, and what is found among them is the answer.
use mathlib.Core.Path.{◌≡◌, ap, ◌∙◌}
use native.Mathlib.Omega.{arith}
use borrow.Author.Rules.{rules}
use lib.ListN.{length}
use Rattle.std.specs.Prelude.{Err}
use Rattle.zone.specs.Held.{offsets_of}
use Rattle.zone.specs.Zone.{zone_good}
use Rattle.next.proofs.Ready.{Ready, ready, answer_taken, answer_refused}
use Rattle.next.proofs.in_plan.Goals as goal
use Rattle.next.proofs.in_plan.Goals.{In_ok-count}
use Rattle.next.proofs.in_plan.Given.{Over}

-- the rows are ready
rows_ready : (g : Over) (c : In_ok-count g) → Ready c.args.plan.now c.load.new.rows c.in_ok-count.count
rows_ready g c = ready _ _ _ _ (ap length c.fresh_rows-rows.ensures) c.in_ok-count.ensures.answer c.in_ok-count.ensures.rows

pub returns-in_err-count : goal.returns-in_err-count
returns-in_err-count g c =
    let e : c.from_residual.result ≡ Err c.in_err-count.field-0.0 = search rules in
    rw e (answer_refused _ c.args.plan.now _ c.in_err-count.ensures.answer)

pub slice_bounds-frames-end : goal.slice_bounds-frames-end
slice_bounds-frames-end g c = omega (arith, (rows_ready g (goal.at.slice_bounds-frames-end g c).In_ok-count).fits)

pub shared_ref_as_front-frames : goal.shared_ref_as_front-frames
shared_ref_as_front-frames g c = omega (arith, (rows_ready g (goal.at.shared_ref_as_front-frames g c).In_ok-count).fits)

pub invariant_of-opened : goal.invariant_of-opened
invariant_of-opened g c =
    let r = rows_ready g (goal.at.invariant_of-opened g c).In_ok-count in
    record { limited = rw c.zone_of-zone.ensures (ap zone_good r.zone ∙ r.good) }

pub returns : goal.returns
returns g c =
    let r = rows_ready g (goal.at.returns g c).In_ok-count in
    answer_taken _ c.args.plan.now c.load.new.rows _ r c.ask.result
    (record { opened = _; held = r.held; zoned = ap offsets_of c.zone_of-zone.ensures ∙ r.zone; answered = c.ask.ensures })
