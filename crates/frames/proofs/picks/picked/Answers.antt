-- The loop's invariant: the picked days so far, and how many days of the set were passed.
use mathlib.Core.Bool.{Bool, ◌&&◌}
use mathlib.Core.Path.{sym, ap, ◌∙◌}
use Prim.Native.Nat.{ℕ, ◌+◌, ◌≤◌}
use native.Mathlib.Omega.{arith}
use Rattle.masks.proofs.Counts.{bits_below_one}
use Rattle.masks.proofs.MaskFroms.{mask_from_same}
use Rattle.masks.specs.Masks.{bit, bits_below}
use Rattle.frames.proofs.MonthSets.{built_none, built_next, built_without, built_whole}
use Rattle.frames.proofs.Positions.{few_passed, passed_on, passed_by, few_days, place_wanted_lem, in_set_lem, not_in_set}
use Rattle.frames.proofs.picks.picked.Goals as goal
use Rattle.frames.proofs.picks.picked.Goals.{then-test, else-test}

abbrev wants : ℕ → ℕ → ℕ → Bool
wants set wanted j = bit set j && bit wanted (bits_below set (j + 1))

pub both_ends-wanted-requires : goal.both_ends-wanted-requires
both_ends-wanted-requires c = rw c.count_from.ensures (few_days c.args.set c.args.len c.requires.0 c.requires.1 c.requires.2)

pub loop-n-init : goal.loop-n-init
loop-n-init c = (sym (bits_below_one c.args.set c.requires.1), built_none _)

pub overflow_add-passed : goal.overflow_add-passed
overflow_add-passed c =
    let v = c.loop-n in
    omega (arith, few_passed _ v.n _ (omega arith) v.invariant.0)

pub loop-n-preserved : goal.loop-n-preserved
loop-n-preserved c =
    let a = c.args in
    let wanted = c.both_ends-wanted.result in
    let v = c.loop-n in
    let h : v.n ≤ 31 = omega arith in
    let e = sym c.test.ensures in
    let i = v.invariant in
    let here = passed_on a.set v.n v.passed h i.0 in (
      elim c.if-test.branch [
        | then-test w ↦ w.passed-is ∙ here (e ∙ w.if-test.true)
        | else-test w ↦ w.passed-is ∙ passed_by a.set v.n v.passed h i.0 (e ∙ w.if-test.false)
      ],
      elim c.if-test.branch [
        | then-test w ↦
            let b = e ∙ w.if-test.true in
            let p = in_set_lem a.set v.n _ b ∙ ap (bit wanted) (sym (here b)) in
            w.picked-is ∙ w.with_place-picked.ensures ∙ built_next (wants a.set wanted) v.n v.picked (omega arith) h i.1 _ p
        | else-test w ↦ w.picked-is ∙ built_without (wants a.set wanted) v.n v.picked (omega arith) h i.1 (not_in_set a.set v.n _ (e ∙ w.if-test.false))
      ],
    )

pub returns : goal.returns
returns c =
    let a = c.args in
    let ends = c.both_ends-wanted in
    built_whole _ _ _ _ c.loop-n.invariant.1 (omega arith)
    ∙ mask_from_same (wants a.set ends.result) _ a.len 1
    (λ n l h. place_wanted_lem a.positions a.set _ ends.result c.count_from.ensures ends.ensures n (omega arith))
