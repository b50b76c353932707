-- The form ends with the line, or not, and may stand there, or not.
use mathlib.Core.Path.{sym, ◌∙◌}
use Rattle.line.proofs.Offsets.{zone_standing}
use Rattle.line.proofs.zones.zone_line.Goals as goal

pub returns-in_err-standing : goal.returns-in_err-standing
returns-in_err-standing c =
    let a = c.args in
    zone_standing a.c a.text.now _ _ (sym c.shift.ensures ∙ c.in_ok-shift.ensures.ok_part) _ _ c.from_residual-in_err-standing.ensures.1
    (rw (sym c.zone_stands.ensures) c.in_err-standing.ensures)
