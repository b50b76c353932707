-- So many bytes and a day fit.
use Prim.Native.Nat.{◌*◌, ◌^◌, ◌≤◌}
use native.Mathlib.Nat.{pow-le-pow_right, one-le-pow}
use native.Mathlib.Omega.{arith}
use Rattle.hex_lines.proofs.Numbers.{number_fits}
use Rattle.plan.proofs.text.moved_up.Goals as goal

pub overflow_add-result : goal.overflow_add-result
overflow_add-result c =
    let k = c.args.bytes in
    let most : 16 ^ (2 * k) ≤ 16 ^ 14 = pow-le-pow_right {n = 16} (omega arith) {i = 2 * k} {j = 14} (omega arith) in
    omega (arith, c.number.ensures, number_fits c.args.line.now c.args.at k)

pub nonzero_rem-result : goal.nonzero_rem-result
nonzero_rem-result c = omega (arith, c.numbers_of.ensures, one-le-pow c.args.bytes 256 (omega arith))
