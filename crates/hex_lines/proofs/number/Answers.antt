-- The number so far fits the digits passed.
use Rattle.std.proofs.Common.{sym, ◌∙◌, arith}
use Rattle.hex_lines.proofs.Digits.{bits_below_lem}
use Rattle.hex_lines.proofs.Numbers.{digits_step, more_fits, room}
use Rattle.hex_lines.proofs.number.Goals as goal

pub overflow_mul-v : goal.overflow_mul-v
overflow_mul-v c = omega (arith, room c.loop-c.v c.loop-c.c-index c.loop-c.invariant.0)

pub overflow_add-v : goal.overflow_add-v
overflow_add-v c = omega (arith, room c.loop-c.v c.loop-c.c-index c.loop-c.invariant.0, c.digit_bits.ensures, bits_below_lem)

pub loop-c-preserved : goal.loop-c-preserved
loop-c-preserved c = let v = c.loop-c in
    rw c.digit_bits.ensures (more_fits v.v _ v.c-index v.invariant.0 (bits_below_lem _), sym (digits_step _ v.v v.c-index (omega arith)) ∙ v.invariant.1)
