-- The power of two is set by "or".
use mathlib.Core.Path.{sym}
use native.Mathlib.Omega.{arith}
use Rattle.masks.proofs.Bits.{one_shifted}
use Rattle.masks.proofs.WithBits.{with_bit_or, with_bit_past}
use Rattle.masks.proofs.with_bit.Goals as goal

pub returns-then-n-gt63 : goal.returns-then-n-gt63
returns-then-n-gt63 c = sym (with_bit_past _ _ c.if-n-gt63.true)

pub returns : goal.returns
returns c = let a = c.args in rw (one_shifted a.n (omega arith)) (sym (with_bit_or a.mask a.n (omega arith)))
