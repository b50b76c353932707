-- What is left at the start, and after a line that is allowed.
use mathlib.Core.Path.{◌≡◌, sym, ap, ◌∙◌}
use native.Mathlib.Omega.{arith}
use borrow.Author.Rules.{rules}
use Rattle.std.specs.Prelude.{Some}
use Rattle.load.specs.Loads.{before_of, allowed_of}
use Rattle.load.proofs.Rounds.{left_first, left_on}
use Rattle.load.proofs.load.Goals as goal

pub loop-at-init : goal.loop-at-init
loop-at-init c = left_first _ _

pub loop-at-preserved : goal.loop-at-preserved
loop-at-preserved c =
    let a = c.args in
    let v = c.loop-at in
    let end = c.line_end-end.ensures in
    let o : c.allow-allowed.result ≡ Some (c.in_ok-frame.frame, c.in_ok-frame.after) = search rules in
    rw (end, c.row_of.ensures)
    (left_on a.plan.now a.rows.now v.rows v.n v.at (before_of v.before) v.invariant (omega (arith, end)) _ _ (sym (ap allowed_of o) ∙ (rw end at c.allow-allowed.ensures)) (sym c.is_end.ensures ∙ c.if-is_end.false))
