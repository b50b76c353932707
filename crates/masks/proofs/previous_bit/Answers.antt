-- The bits below n are a remainder; what is left of 64 under the zeros that lead is the answer.
use native.Mathlib.Omega.{arith}
use Rattle.masks.proofs.Bits.{one_shifted}
use Rattle.masks.proofs.Nexts.{previous_bit_cut, previous_bit_whole}
use Rattle.masks.proofs.previous_bit.Goals as goal

pub returns-then-n-gt63 : goal.returns-then-n-gt63
returns-then-n-gt63 c = rw c.from.ensures (previous_bit_whole _ _ c.ranges.mask.fits c.if-n-gt63.true)

pub returns : goal.returns
returns c = let a = c.args in rw (c.from-2.ensures, one_shifted a.n (omega arith)) (previous_bit_cut a.mask a.n (omega arith))
