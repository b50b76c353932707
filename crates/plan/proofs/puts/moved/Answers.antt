-- Two's complement of a number of any size, which fits.
use native.Mathlib.Omega.{arith}
use Rattle.plan.proofs.Placing.{numbers_least, numbers_most, moved_by}
use Rattle.plan.proofs.puts.moved.Goals as goal

pub nonzero_rem-result : goal.nonzero_rem-result
nonzero_rem-result c = omega (arith, c.numbers_of-numbers.ensures, numbers_least c.args.bytes c.requires.0)

pub overflow_sub-result : goal.overflow_sub-result
overflow_sub-result c = omega (arith, c.numbers_of-numbers.ensures, numbers_least c.args.bytes c.requires.0)

pub overflow_add-result : goal.overflow_add-result
overflow_add-result c =
    omega (arith, c.numbers_of-numbers.ensures, numbers_least c.args.bytes c.requires.0, numbers_most c.args.bytes c.requires.1)

pub nonzero_rem-result-2 : goal.nonzero_rem-result-2
nonzero_rem-result-2 c = omega (arith, c.numbers_of-numbers.ensures, numbers_least c.args.bytes c.requires.0)

pub returns : goal.returns
returns c = rw c.numbers_of-numbers.ensures (moved_by c.args.v c.args.bytes c.requires.0)
