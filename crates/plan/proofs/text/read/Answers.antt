-- A line of digits, and any other.
use mathlib.Core.Path.{sym, ◌∙◌}
use Rattle.plan.proofs.Readings.{read_digits, read_other}
use Rattle.plan.proofs.text.read.Goals as goal

pub returns-then-is_line : goal.returns-then-is_line
returns-then-is_line c = c.frame_of.ensures ∙ read_digits _ (sym c.is_line.ensures ∙ c.if-is_line.true)

pub returns-else-is_line : goal.returns-else-is_line
returns-else-is_line c = sym (read_other _ (sym c.is_line.ensures ∙ c.if-is_line.false))
