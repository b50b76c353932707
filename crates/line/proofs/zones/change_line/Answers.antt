-- The form ends with the line, or not, and may stand there, or not.
use mathlib.Core.Path.{sym, ◌∙◌}
use Rattle.line.proofs.Changes.{change_standing}
use Rattle.line.proofs.zones.change_line.Goals as goal

pub returns-in_err-standing : goal.returns-in_err-standing
returns-in_err-standing c =
    let a = c.args in
    change_standing a.c a.text.now _ _ (sym c.time_and_space.ensures ∙ c.in_ok-time.ensures.ok_part) _ _ (sym c.shift.ensures ∙ c.in_ok-shift.ensures.ok_part) _ _ c.from_residual-in_err-standing.ensures.1
    (rw (sym c.change_stands.ensures) c.in_err-standing.ensures)
