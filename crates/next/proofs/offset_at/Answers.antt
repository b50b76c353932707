-- The plan's zone is asked for the offset at an instant.
use mathlib.Core.Path.{◌≡◌, refl, ap, ◌∙◌}
use borrow.Author.Rules.{rules}
use Rattle.std.specs.Prelude.{Ok}
use Rattle.plan.specs.Taken.{load}
use Rattle.zone.specs.Held.{offsets_of}
use Rattle.zone.specs.Zone.{Offsets, offset_at}
use Rattle.next.specs.Plans.{offset_by, offset_in}
use Rattle.next.proofs.Ready.{one_answer}
use Rattle.next.proofs.offset_at.Goals as goal

pub returns : goal.returns
unfolding offset_in offset_by
returns c =
    one_answer _ (λ l. offset_by l c.args.asked) (λ k. refl)
    (λ fs x a.
    let e : x ≡ offset_at (offsets_of a.opened.now.zone.now) c.args.asked = let h = a.answered in search rules in
    ap Ok (e ∙ ap (λ (z : Offsets). offset_at z c.args.asked) a.zoned))
    (load c.args.plan.now) c.in_plan.result c.in_plan.ensures
