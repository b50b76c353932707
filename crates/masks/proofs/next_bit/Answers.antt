-- The bits below n are shifted out and back; the zeros that trail are the answer.
use mathlib.Core.Path.{sym, ◌∙◌}
use native.Mathlib.Omega.{arith}
use Rattle.masks.proofs.Nexts.{next_bit_past, next_bit_shifted}
use Rattle.masks.proofs.next_bit.Goals as goal

pub returns-then-n-gt63 : goal.returns-then-n-gt63
returns-then-n-gt63 c = sym (next_bit_past _ _ c.if-n-gt63.true)

pub returns : goal.returns
returns c = c.from.ensures ∙ next_bit_shifted _ _ c.ranges.mask.fits (omega arith)
