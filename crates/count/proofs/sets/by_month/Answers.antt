-- No rule; before the start; and where a turn is no longer than its days that count, no day is left out.
use mathlib.Core.Bool.{true≢false}
use mathlib.Core.Path.{◌≡◌, ◌∙◌}
use Prim.Native.Nat.{◌/◌, ◌≤◌}
use native.Mathlib.Omega.{arith}
use borrow.Author.Tests.{ne_eqb, eqb-true}
use lib.ListN.{get_or}
use Rattle.days.specs.Steps.{day_part}
use Rattle.count.specs.Turns.{width_of}
use Rattle.count.proofs.Turning.{part_from, whole_turn}
use Rattle.count.proofs.sets.by_month.Goals as goal

pub returns-then-f-ne-RULE : goal.returns-then-f-ne-RULE
unfolding day_part
returns-then-f-ne-RULE c = (λ e. record { passes = λ j h t. rw (ne_eqb _ _ c.if-f-ne-RULE.true) }, λ e. absurd (true≢false e))

pub returns : goal.returns
returns c =
    let l = c.args.f.now in
    let kind = c.if-f-ne-RULE.false in
    let turn = c.turn in (
      λ e.
          record {
            passes = λ j h t.
                let w : turn.result ≡ width_of l = eqb-true turn.result c.width.result e ∙ c.width.ensures in
                let s : get_or l 3 0 / 1440 ≤ j = omega arith in
                part_from l kind j s ∙ whole_turn l turn.result turn.ensures w j s t;
          },
      λ e. kind,
    )
