-- The form ends with the line, or not, and may stand there, or not; and the refusals of a rule.
use mathlib.Core.Path.{sym, ◌∙◌}
use borrow.Author.Tests.{not-false}
use Rattle.line.proofs.Ruling.{rule_standing, rule_refused}
use Rattle.line.proofs.schedules.rule_line.Goals as goal

pub returns-in_err-standing : goal.returns-in_err-standing
returns-in_err-standing c =
    let a = c.args in
    rule_standing a.c a.text.now _ _ (sym c.time_and_space.ensures ∙ c.in_ok-time.ensures.ok_part) _ _ (sym c.parts_at.ensures ∙ c.in_ok-parts.ensures.ok_part) _ _ c.from_residual-in_err-standing.ensures.1
    (rw (sym c.other_stands.ensures) c.in_err-standing.ensures)

pub returns-in_err-frame : goal.returns-in_err-frame
returns-in_err-frame c =
    let a = c.args in
    rule_refused a.c a.text.now _ _ (sym c.time_and_space.ensures ∙ c.in_ok-time.ensures.ok_part) _ _ (sym c.parts_at.ensures ∙ c.in_ok-parts.ensures.ok_part) (rw (sym c.other_stands.ensures) c.in_ok-standing.ensures) _ (sym c.local_minute.ensures ∙ c.in_ok-start.ensures.ok_part) (not-false _ c.if-not-parts.false) _ _ c.from_residual-in_err-frame.ensures.1 c.in_err-frame.ensures
