-- The form ends with the line, or not, and may stand there, or not.
use mathlib.Core.Path.{sym, ◌∙◌}
use Rattle.line.proofs.Moments.{moment_standing}
use Rattle.line.proofs.times.time_line.Goals as goal

pub returns-in_err-standing : goal.returns-in_err-standing
returns-in_err-standing c =
    let a = c.args in
    moment_standing a.c a.excepted a.text.now _ _ (sym c.time.ensures ∙ c.in_ok-time.ensures.ok_part) _ _ c.from_residual-in_err-standing.ensures.1
    (rw (sym c.other_stands.ensures) c.in_err-standing.ensures)
