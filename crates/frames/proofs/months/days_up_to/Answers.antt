-- The bits 1 to len, as a number.
use mathlib.Core.Path.{sym}
use Prim.Native.Nat.{ℕ, ◌^◌, ◌≤◌}
use native.Mathlib.Omega.{arith}
use lib.Pow.{pow_mono}
use Rattle.masks.proofs.Bits.{one_shifted}
use Rattle.masks.proofs.MaskFroms.{mask_of_own_bits}
use Rattle.frames.proofs.months.days_up_to.Goals as goal

small_power : (n : ℕ) → n ≤ 31 → 2 ^ n ≤ 2147483648
small_power n h = pow_mono h

pub returns : goal.returns
returns c = rw (one_shifted c.args.len (omega arith)) (sym (mask_of_own_bits c.args.mask c.args.len 1))
