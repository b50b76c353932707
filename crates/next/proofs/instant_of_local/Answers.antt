-- The plan's zone, which is under the limits, is asked for the instant of a local minute.
use mathlib.Core.Path.{◌≡◌, refl, ap, ◌∙◌}
use borrow.Author.Rules.{rules}
use Rattle.std.specs.Prelude.{Ok}
use Rattle.plan.specs.Taken.{load}
use Rattle.zone.specs.Held.{offsets_of}
use Rattle.zone.specs.Stretches.{instant_of_local}
use Rattle.zone.specs.Zone.{Offsets}
use Rattle.next.specs.Plans.{local_by, local_in}
use Rattle.next.proofs.Ready.{one_answer}
use Rattle.next.proofs.instant_of_local.Goals as goal

pub returns : goal.returns
unfolding local_in local_by
returns c =
    one_answer _ (λ l. local_by l c.args.m) (λ k. refl)
    (λ fs x a.
    let e : x ≡ instant_of_local (offsets_of a.opened.now.zone.now) c.args.m = let h = a.answered in let limited = a.opened.now.limited in search rules in
    ap Ok (e ∙ ap (λ (z : Offsets). instant_of_local z c.args.m) a.zoned))
    (load c.args.plan.now) c.in_plan.result c.in_plan.ensures
