-- The bit is the remainder of the shifted mask; past bit 63 a mask has none.
use Rattle.std.proofs.Common.{arith}
use Rattle.std.proofs.lemmas.Bool.Decides.{nat_tests}
use Rattle.masks.proofs.Bits.{bit_above}
use Rattle.masks.proofs.test.Goals as goal

pub returns-else-n-lt64 : goal.returns-else-n-lt64
returns-else-n-lt64 c = let none = bit_above c.args.mask 64 c.args.n c.ranges.mask.fits c.if-n-lt64.false in grind (arith, nat_tests)
