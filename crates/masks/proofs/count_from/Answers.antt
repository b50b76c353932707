-- The bits from n on are shifted down and counted.
use mathlib.Core.Path.{sym, ◌∙◌}
use native.Mathlib.Omega.{arith}
use Rattle.masks.proofs.Counts.{bits_from_past, bits_from_shifted}
use Rattle.masks.proofs.count_from.Goals as goal

pub returns-then-n-gt63 : goal.returns-then-n-gt63
returns-then-n-gt63 c = sym (bits_from_past _ _ c.if-n-gt63.true)

pub returns : goal.returns
returns c = c.from.ensures ∙ bits_from_shifted _ _ c.ranges.mask.fits (omega arith)
